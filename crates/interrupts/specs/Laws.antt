-- A side's register read, changed and written back is that register changed; and changed at once, or one change after the other.
use Rattle.std.specs.Prelude.{◌≡◌, refl}
use Rattle.std.proofs.Common.{◌∙◌}
use Rattle.model.specs.Sides.{Side, host, local}
use Rattle.model.specs.Interrupts.{Register, Interrupts, register, on_register}

pub written_back : (side : Side) (f : Register → Register) (i j : Interrupts) (r q : Register) →
    r ≡ register side i → q ≡ f r → j ≡ on_register side (λ _. q) i → j ≡ on_register side f i
written_back host f i j r q g h w = w ∙ rw (h, g)
written_back local f i j r q g h w = w ∙ rw (h, g)

pub one_by_one : (side : Side) (f g : Register → Register) (i : Interrupts) → on_register side (λ r. f (g r)) i ≡ on_register side f (on_register side g i)
one_by_one host f g i = refl
one_by_one local f g i = refl
