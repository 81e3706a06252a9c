-- What a linear plan word does on one share, and lists of them share by share (OnShare); a plan cut at its ANDs and ADDs (Cut).
-- Nothing here has to be believed: the contracts of the public calls do not cite it.
pub mod inner
