mod Hanging
mod Parts
