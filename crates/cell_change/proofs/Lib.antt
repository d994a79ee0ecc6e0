pub mod Decision
pub mod Arrival
pub mod Return
mod NoneAside
mod Nobody
pub mod ChangeFinished
pub mod ChangeExchanged
pub mod ChangeAnswered
pub mod Late
