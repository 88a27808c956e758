pub mod Days
pub mod Forms
pub mod Worked
