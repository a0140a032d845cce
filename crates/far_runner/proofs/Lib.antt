mod Answering
mod Bounding
mod Picking
mod Pumping
mod SameBodies
mod ToRecovery
mod TurnLaws
