mod Single
mod Sites
mod Names
