-- Names that inner contracts cite: nothing here has to be believed.
use Rattle.std.specs.Prelude.{Result, Ok, Err}
use Rattle.checks.specs.declared.refusal.Refusal.{Refusal}
use Rattle.checks.specs.declared.refusal.Counts.{Counts}
use Rattle.fft_sizes.specs.declared.layer.Layer.{Layer}

-- without the layer
abbrev pub counts_of : Result (Layer × Counts) Refusal → Result Counts Refusal
counts_of (Ok r) = Ok r.1
counts_of (Err e) = Err e
