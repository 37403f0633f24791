mod Small
mod Worked
mod Forms
mod Stops
mod Refusals
