mod Bits
mod Cut
