mod CallEnds
mod LabelLists
mod Plays
mod Postings
mod Tables
