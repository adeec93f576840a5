mod Choices
mod Held
mod Roomier
mod Segmented
mod Placed
