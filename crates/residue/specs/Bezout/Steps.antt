-- How the cofactors follow Euclid's chain: for the law of proofs/Bezout.antt and the proof of the code that computes them, and
-- for nobody else.
use Rattle.std.specs.Prelude.{◌≡◌, ℕ, ◌%◌, ◌<◌}
use Rattle.residue.specs.Euclid.{euclid-zero, euclid-step}
use Rattle.residue.specs.Bezout.{cofactors, last, next}

pub cofactors-zero : (m a : ℕ) → cofactors m a 0 ≡ last m a
unfolding cofactors
cofactors-zero m a = euclid-zero (last m) (next m) a

pub cofactors-step : (m a b : ℕ) → 0 < b → cofactors m a b ≡ next m a b (cofactors m b (a % b))
unfolding cofactors
cofactors-step m a b h = euclid-step (last m) (next m) a b h
