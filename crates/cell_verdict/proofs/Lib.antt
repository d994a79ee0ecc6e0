mod Cut
mod Given
