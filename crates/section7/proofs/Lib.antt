mod Codes
mod Values
mod Aligned
mod Payload
