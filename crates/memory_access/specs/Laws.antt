-- An address that the checks of reads and writes let through: its four bytes lie in its memory.
use Rattle.std.specs.Prelude.{◌≡◌, ℕ, ◌+◌}
use Rattle.std.proofs.Common.{sym, ◌∙◌, lit≤, lit<}
use Rattle.model.specs.Checks.{refusal, shared_length}
use Rattle.model.specs.Sides.{side_of}
use Rattle.model.proofs.CheckLaws.{passed}
use Rattle.model.proofs.CauseLaws.{Placed, placed}
use Rattle.access.specs.declared.Access.{Access}
use Rattle.settings.specs.declared.Settings.{Settings}
use Rattle.settings.specs.Bridge.{settings_as}
use Rattle.memory_access.specs.Bridge.{shared_checks, window_checks}

-- four bytes from a PCI address lie in the window
abbrev pub InWindow : Settings → (pci : ℕ) → Type 0
InWindow t at = Placed at 4 t.base (t.base + t.length)

module _ (q : Access) (b n : ℕ) where
  pub shared_placed : n ≡ refusal (shared_checks q.s q.a b q.c) → n ≡ 0 → Placed q.a 4 0 shared_length
  shared_placed e h = placed q.a 4 0 shared_length (passed 3 (lit< tt) (shared_checks q.s q.a b q.c) (lit≤ tt, (lit≤ tt, (lit≤ tt, tt))) (sym e ∙ h)).1.1.0

  pub window_placed : (t : Settings) → n ≡ refusal (window_checks (settings_as t) (side_of q.side) q.s q.a b q.c) → n ≡ 0 → InWindow t q.a
  window_placed t e h =
      placed q.a 4 t.base (t.base + t.length)
      (passed 3 (lit< tt) (window_checks (settings_as t) (side_of q.side) q.s q.a b q.c) (lit≤ tt, (lit≤ tt, (lit≤ tt, (lit≤ tt, tt)))) (sym e ∙ h)).1.1.1.0
