mod Calendar
mod Placing
