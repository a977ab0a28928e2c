mod Names
mod Drawn
mod Sound
