mod Marks
mod Walking
mod Parts
