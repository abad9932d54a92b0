pub mod Drafts
pub mod Noted
pub mod Senders
pub mod laws
