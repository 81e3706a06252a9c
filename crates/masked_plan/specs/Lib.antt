-- What a compiled plan's crate proves of its plan, so that the calls over it need no more (inner/PlanLaws).
-- Nothing here has to be believed: the contracts of the public calls do not cite it.
pub mod inner
