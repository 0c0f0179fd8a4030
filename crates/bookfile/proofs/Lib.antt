mod Gaps
mod Entries
mod Sofar
mod Endings
mod Verdicts
mod Reorders
