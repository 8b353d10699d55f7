mod Walked
mod Reading
mod Taking
mod Gathering
