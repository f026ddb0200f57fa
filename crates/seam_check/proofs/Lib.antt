mod HeadSteps
mod Judgments
mod Lines
mod Progress
mod Rounds
