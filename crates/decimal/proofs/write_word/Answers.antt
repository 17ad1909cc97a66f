-- What a copy leaves is what storing the word byte by byte leaves.
use Rattle.std.proofs.Common.{◌≡◌, ℕ, ◌+◌, ◌≤◌, List, ◌++◌, length, take, ap, arith, refl, drop-drop, append_assoc}
use Rattle.std.proofs.lemmas.List.Edits.{sets, sets-eq}
use borrow.Rule.Slice.PartMut.{put_mid}
use Rattle.decimal.proofs.write_word.Goals as goal

copied : (l s : List ℕ) (at k : ℕ) → k ≡ length s → at + length s ≤ length l → put_mid at k l s ≡ sets l at s
copied l s at k e h = rw (sets-eq s l at h, append_assoc, e) (ap (λ (t : List ℕ). take at l ++ (s ++ t)) (drop-drop (length s) at l))

pub returns : goal.returns
returns c = record {
  place = refl;
  bytes = rw c.copy_from_slice.ensures.after (copied c.args.out.now c.args.word.now c.args.at _ (omega arith) c.requires);
}
