mod Places
mod Reaching
mod Found
