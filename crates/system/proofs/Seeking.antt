-- A loop that takes parts off the front of a list, and looks for the first that does not pass: e parts are off, and `rest` is left.
--   Seeking                      what is left finds the place that the whole finds
--   sought_on, sought_stop       the first part left passes, or it does not
--   sought_none                  no part is left
use mathlib.Core.Path.{◌≡◌, sym, ap, ◌∙◌}
use mathlib.Core.List.{List, [], ◌∷◌}
use mathlib.Core.Bool.{Bool, true, false, cond}
use Prim.Native.Nat.{ℕ, suc, ◌+◌}
use native.Mathlib.Numerals.{add-one}
use Rattle.std.specs.Prelude.{Some, None}
use Rattle.equations.specs.Lists.{fails_from, fails_at}
use Rattle.system.specs.Places.{placed}

module _ {A B : Type 0} (p : A → Bool) (read : List B → List A) (all : List B) where
  abbrev pub Seeking : ℕ → List B → Type 0
  Seeking e rest = fails_from p e (read rest) ≡ fails_at p (read all)

  module _ (e : ℕ) (rest : List B) (seek : Seeking e rest) where
    pub sought_none : read rest ≡ [] → None ≡ placed (fails_at p (read all))
    sought_none none = ap placed (sym (ap (fails_from p e) none) ∙ seek)

    module _ (x : A) (left : List B) (cut : read rest ≡ x ∷ read left) where
      number : (b : Bool) → p x ≡ b → cond b (fails_from p (suc e) (read left)) (suc e) ≡ fails_at p (read all)
      number b t =
          sym (ap (fails_from p e) cut ∙ ap (λ (z : Bool). cond z (fails_from p (suc e) (read left)) (suc e)) t) ∙ seek

      pub sought_on : p x ≡ true → Seeking (e + 1) left
      sought_on t = ap (λ (k : ℕ). fails_from p k (read left)) (add-one e) ∙ number true t

      pub sought_stop : p x ≡ false → Some (e + 1) ≡ placed (fails_at p (read all))
      sought_stop f = ap Some (add-one e) ∙ ap placed (number false f)
