mod Verbs
mod Flagging
