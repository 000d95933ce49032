mod Telling
mod Answering
mod Faulting
