mod Passes
mod RoundSteps
mod Ways
