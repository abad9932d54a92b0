mod Going
mod Received
mod Sent
mod There
