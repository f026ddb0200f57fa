mod WordSteps
mod NumberSteps
mod ValueSteps
