-- What joins the private functions.
pub mod Places
