pub mod ReplyText
