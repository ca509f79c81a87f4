mod Refused
mod Rising
mod Seats
mod Takes
