mod Passed
mod Taken
mod Judgements
mod Told
