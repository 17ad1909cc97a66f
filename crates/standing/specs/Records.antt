-- Record after record of some bytes, 20 at a time: what is cut off in front reads as what is left does.
use Rattle.std.specs.Prelude.{◌≡◌, refl, List, [], ◌∷◌, ◌++◌, min, ℕ, ◌≤◌, ◌<◌, length, drop}
use Rattle.std.proofs.Common.{ap, ◌∙◌, Some, None, Bor, arith, length-append}
use Rattle.std.proofs.lemmas.List.{drop_at, drop_all}
use mathlib.Core.List.{append-nil}
use Rattle.std.specs.declared.slice.Chunks.{Chunks}
use Rattle.std.specs.Slice.Iter.{chunks_steps}
use Rattle.model.specs.Trace.{read_record}
use Rattle.model.proofs.TraceLaws.{reads_first}

-- A record of 20 bytes in front, or all that is left where that is less.
pub record Cut (rest bytes more : List ℕ) : Type 0 where
  pub is : rest ≡ bytes ++ more
  pub size : length bytes ≡ min 20 (length rest)
  pub some : 0 < length rest

pub cut_of : (s t : Chunks ℕ) (x : Bor (List ℕ)) → chunks_steps s (Some x) t → s.size ≡ 20 → (t.size ≡ 20) × Cut s.rest.now x.now t.rest.now
cut_of s t x (z, (e, n, p)) h = (z ∙ h, record { is = e; size = rw h at n; some = p })

pub none_cut : (s t : Chunks ℕ) → chunks_steps s None t → length s.rest.now ≡ 0
none_cut s t (z, (e, same)) = e

-- it reads as what is left does
pub cut_reads : (rest bytes more : List ℕ) (n : ℕ) → Cut rest bytes more → read_record rest n ≡ read_record bytes n
cut_reads rest bytes [] n c = rw (c.is, append-nil) refl
cut_reads rest bytes (b ∷ more) n c =
    let long : 20 ≤ length bytes = omega (arith, c.size, ap length c.is, length-append bytes (b ∷ more)) in
    rw c.is (reads_first bytes (b ∷ more) n long)

pub cut_rest : (rest bytes more : List ℕ) → Cut rest bytes more → drop 20 rest ≡ more
cut_rest rest bytes [] c = drop_all 20 rest (omega (arith, c.size, ap length c.is, length-append bytes []))
cut_rest rest bytes (b ∷ more) c =
    let long : length bytes ≡ 20 = omega (arith, c.size, ap length c.is, length-append bytes (b ∷ more)) in
    rw c.is (drop_at bytes (b ∷ more) 20 long)
