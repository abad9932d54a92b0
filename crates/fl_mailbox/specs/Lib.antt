pub mod Endpoints
pub mod Mailbox
pub mod Pushes
pub mod laws
pub mod Offenders
pub mod TableLaws
