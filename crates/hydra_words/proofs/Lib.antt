pub mod NumberReadings
pub mod OptionSteps
pub mod FormsRead
pub mod FormsOnly
pub mod CommandsExact
pub mod InRange
pub mod EitherOrder
pub mod FaultsFirst
