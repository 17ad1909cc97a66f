-- Laws of the bridge: each part of the state as the card has it, fresh cards and sound ones; and how the checks of a kind and its effect give its promise.
use Rattle.std.specs.Prelude.{◌≡◌, Bool, true, false, ◌&&◌, List, [], ℕ, ◌<◌, zero, suc, Result, Ok, Err, IsOk}
use Rattle.std.proofs.Math.Path.{refl}
use Rattle.std.proofs.Common.{ap, ap₂, sym, subst, ◌∙◌, arith, lit<}
use Rattle.std.proofs.Math.Bool.{and-true, and_assoc}
use Rattle.model.specs.Checks.{refusal}
use Rattle.model.specs.Sides.{side_of}
use Rattle.model.specs.Events.{Event, mask}
use Rattle.model.specs.Settings.{Settings, zero_settings, settings_pass}
use Rattle.model.specs.Fifos.{fifos_sound}
use Rattle.model.specs.Arbitration.{arbitration_sound}
use Rattle.model.specs.Mailboxes.{mailboxes_sound}
use Rattle.model.specs.Interrupts.{Interrupts, interrupts_sound}
use Rattle.model.specs.Transfer.{transfer_sound}
use Rattle.model.specs.State.{State, World, sound, with_interrupts, fresh, fresh_card}
use Rattle.model.specs.Changes.{apply_all, raised_in_both, nothing, Effect, done}
use Rattle.model.specs.Accesses as words
use Rattle.model.specs.Accesses.{Kind, Row, row_of, settled, does}
use Rattle.model.proofs.CheckLaws.{Pass, passed}
use Rattle.model.proofs.Refusals.{row_ascending, settled_number}
use Rattle.access.specs.declared.Access.{Access}
use Rattle.access.specs.declared.Done.{Done}
use Rattle.access.specs.declared.Refusal.{Refusal}
use Rattle.access.specs.Bridge.{access_as, number_of, refusal_as, answer_as}
use Rattle.access.specs.Laws.{number_positive, refused_number}
use Rattle.settings.specs.Bridge.{settings_as}
use Rattle.fifos.specs.Bridge.{fifos_as}
use Rattle.arbitration.specs.Bridge.{arbitration_as}
use Rattle.mailboxes.specs.Bridge.{mailboxes_as}
use Rattle.interrupts.specs.Bridge.{interrupts_as, raised_both}
use Rattle.transfer.specs.Bridge.{transfer_as}
use Rattle.dma.specs.Bridge.{dma_as}
use Rattle.card.specs.declared.Card.{Card}
use Rattle.card.specs.declared.Outcome.{Outcome}
use Rattle.card.specs.Bridge.{state_as, world_as, outcome_as, Effected, Stored, Settles, Did}

-- PARTS OF THE STATE, as the card has them

module _ (c : Card) where
  pub settings_is : (state_as c).settings ≡ settings_as c.settings
  unfolding state_as
  settings_is = refl

  pub fifos_is : (state_as c).fifos ≡ fifos_as c.fifos
  unfolding state_as
  fifos_is = refl

  pub arbitration_is : (state_as c).arbitration ≡ arbitration_as c.arbitration
  unfolding state_as
  arbitration_is = refl

  pub mailboxes_is : (state_as c).mailboxes ≡ mailboxes_as c.mailboxes
  unfolding state_as
  mailboxes_is = refl

  pub interrupts_is : (state_as c).interrupts ≡ interrupts_as c.interrupts
  unfolding state_as
  interrupts_is = refl

  pub transfer_is_lem : (state_as c).transfer ≡ transfer_as c.transfer
  unfolding state_as
  transfer_is_lem = refl

  pub dma_is_lem : (state_as c).dma ≡ dma_as c.dma
  unfolding state_as
  dma_is_lem = refl

-- the tests of a sound record, part by part
pub sound_is : (s : State) (settings fifos arbitration mailboxes interrupts transfer : Bool) →
    settings ≡ settings_pass s.settings → fifos ≡ fifos_sound s.fifos → arbitration ≡ arbitration_sound s.arbitration →
    mailboxes ≡ mailboxes_sound s.mailboxes → interrupts ≡ interrupts_sound s.interrupts → transfer ≡ transfer_sound s.transfer →
    (settings && fifos && arbitration && mailboxes && interrupts && transfer) ≡ sound s
unfolding sound
sound_is s settings fifos arbitration mailboxes interrupts transfer a b c d e f = rw (a, b, c, d, e, f) (simp (and-true, and_assoc))

-- FRESH CARDS

module _ (s : Settings) (pass : Bool) (e : pass ≡ settings_pass s) where
  pub fresh_passed : (k : State) → pass ≡ true → k ≡ fresh s → record { number = 0; card = k } ≡ fresh_card s
  unfolding fresh_card
  fresh_passed k h q = rw (sym e ∙ h, q)

  pub fresh_failed : (k : State) (z : Settings) → pass ≡ false → z ≡ zero_settings → k ≡ fresh z → record { number = 1; card = k } ≡ fresh_card s
  unfolding fresh_card
  fresh_failed k z h p q = rw (sym e ∙ h, q, p)

-- AN EFFECT

-- an event raised in both registers, by the set that has it alone
pub raised_both_lem : (s : State) (i : Interrupts) (e : Event) (n : ℕ) → n ≡ mask e → i ≡ raised_both n s.interrupts → with_interrupts i s ≡ apply_all (raised_in_both e) s
raised_both_lem s i e n p h = rw (h, p)

-- what holds of an effect holds of one that equals it
pub by_effect : (P : Effect → Type 0) (e f : Effect) → e ≡ f → P f → P e
by_effect P e f p q = rw p q

-- what an operation gave, as a property of its effect
abbrev pub Gives : Card → Outcome → Effect → Type 0
Gives c r e = Effected e c r

-- an effect that changes nothing
pub unchanged : (v x m y : ℕ) (c : Card) → m ≡ v → y ≡ x → Effected (done v x []) c (record { card = c; answer = Ok (record { v = m; x = y }) })
unchanged v x m y c p q = record { answer = ap₂ (λ v x. Ok (record { v = v; x = x })) p q; state = refl }

-- THE PROMISE OF A ROW

-- what is done is answered as done
pub done_said : {a : Result Done Refusal} {d : Done} → a ≡ Ok d → IsOk a
done_said e = rw e refl

-- what a refused row settles
refused_outcome : (n : ℕ) (e : Effect) (w : World) → 0 < n → record { answer = record { number = n; v = 0; x = 0 }; world = w } ≡ settled n e w
refused_outcome zero e w h = absurd (omega (arith, h))
refused_outcome (suc n) e w h = refl

module _ (row : Row) (card : Card) (m w : List ℕ) where
  -- refused by the checks of the row
  pub refused_settles : {T : Type 0} (checked : Result T Refusal) (r : Refusal) → checked ≡ Err r → refusal_as checked ≡ refusal row.checks →
      Settles row card m w (record { card = card; answer = Err r }) m w
  refused_settles checked r e p = record {
    told = rw (← refused_number e p) (refused_outcome (number_of r) row.effect (world_as card m w) (number_positive r));
    kept = λ _. refl;
    said = λ z. absurd (let h = number_positive r in omega (arith, h, z));
  }

  -- done, with a dword stored in a memory or not
  pub stored_settles : (r : Outcome) (m' w' : List ℕ) → refusal row.checks ≡ 0 → Stored row.effect card m w r m' w' → Settles row card m w r m' w'
  stored_settles r m' w' p e = record {
    told = rw (p, e.effected.answer, e.effected.state, e.memories.shared, e.memories.window);
    kept = λ h. absurd (h (ap (λ (x : Result Done Refusal). (answer_as x).number) e.effected.answer));
    said = λ _. done_said e.effected.answer;
  }

  pub done_settles : (r : Outcome) → refusal row.checks ≡ 0 → row.effect.store ≡ nothing → Effected row.effect card r → Settles row card m w r m w
  done_settles r p s e = stored_settles r m w p (record { effected = e; memories = rw s (record { shared = refl; window = refl }) })

-- the same of a kind
module _ (k : Kind) (card : Card) (q : Access) (m w : List ℕ) where
  abbrev kind_row : Row
  kind_row = row_of k (world_as card m w) (access_as q)

  settles_did : {r : Outcome} {m' w' : List ℕ} → Settles kind_row card m w r m' w' → Did k card q m w r m' w'
  unfolding does
  settles_did s = record { told = s.told; kept = s.kept; said = s.said }

  pub did_settles : {r : Outcome} {m' w' : List ℕ} → Did k card q m w r m' w' → Settles (row_of k (world_as card m w) (access_as q)) card m w r m' w'
  unfolding does
  did_settles d = record { told = d.told; kept = d.kept; said = d.said }

  -- of an access that is the same in the model's words
  pub did_asked : {r : Outcome} {m' w' : List ℕ} (a : words.Access) → access_as q ≡ a → Did k card q m w r m' w' → Settles (row_of k (world_as card m w) a) card m w r m' w'
  did_asked {r} {m'} {w'} a e d = subst (λ a. Settles (row_of k (world_as card m w) a) card m w r m' w') e (did_settles d)

  pub refused_did : {T : Type 0} (checked : Result T Refusal) (r : Refusal) → checked ≡ Err r →
      refusal_as checked ≡ refusal (row_of k (world_as card m w) (access_as q)).checks → Did k card q m w (record { card = card; answer = Err r }) m w
  refused_did checked r e p = settles_did (refused_settles kind_row card m w checked r e p)

  pub stored_did : (r : Outcome) (m' w' : List ℕ) → refusal (row_of k (world_as card m w) (access_as q)).checks ≡ 0 →
      Stored (row_of k (world_as card m w) (access_as q)).effect card m w r m' w' → Did k card q m w r m' w'
  stored_did r m' w' p e = settles_did (stored_settles kind_row card m w r m' w' p e)

  pub done_did : (r : Outcome) → refusal (row_of k (world_as card m w) (access_as q)).checks ≡ 0 → (row_of k (world_as card m w) (access_as q)).effect.store ≡ nothing →
      Effected (row_of k (world_as card m w) (access_as q)).effect card r → Did k card q m w r m w
  done_did r p s e = settles_did (done_settles kind_row card m w r p s e)

-- where nothing is refused, no cause of the row holds
pub row_passed : (k : Kind) (w : World) (q : words.Access) (n : ℕ) → n ≡ refusal (row_of k w q).checks → n ≡ 0 → Pass (row_of k w q).checks
row_passed k w q n p h = passed 2 (lit< tt) (row_of k w q).checks (row_ascending k w (side_of q.side) q.s q.a q.b q.c) (sym p ∙ h)

-- WHAT A ROW SETTLED, by its answer

module _ (row : Row) (card : Card) (m w : List ℕ) {r : Outcome} {m' w' : List ℕ} (s : Settles row card m w r m' w') where
  -- refused, by the row's number
  pub settled_refused : (f : Refusal) → r.answer ≡ Err f → (number_of f ≡ refusal row.checks) × (number_of f ≡ 0 → ⊥)
  settled_refused f e = (
    sym (ap (λ (a : Result Done Refusal). (answer_as a).number) e) ∙ ap (λ o. o.answer.number) s.told ∙ settled_number (refusal row.checks) row.effect (world_as card m w),
    λ z. let p = number_positive f in omega (arith, p, z),
  )

  -- done, with the row's effect
  pub settled_done : (d : Done) → r.answer ≡ Ok d → (refusal row.checks ≡ 0) × Effected row.effect card r
  settled_done d e = by (refusal row.checks) s.told
    where
      by : (n : ℕ) → outcome_as r m' w' ≡ settled n row.effect (world_as card m w) → (n ≡ 0) × Effected row.effect card r
      by zero h =
          let a = sym (ap answer_as e) ∙ ap (λ o. o.answer) h in
          (refl, record { answer = e ∙ ap₂ (λ v x. Ok (record { v = v; x = x })) (ap (λ a. a.v) a) (ap (λ a. a.x) a); state = ap (λ o. o.world.card) h })
      by (suc n) h = absurd (let z : ◌≡◌ {A = ℕ} 0 (suc n) = sym (ap (λ (a : Result Done Refusal). (answer_as a).number) e) ∙ ap (λ o. o.answer.number) h in omega arith)

  -- where no check holds, it is done
  pub settled_effected : refusal row.checks ≡ 0 → Effected row.effect card r
  settled_effected h = by r.answer refl
    where
      by : (a : Result Done Refusal) → r.answer ≡ a → Effected row.effect card r
      by (Ok d) e = (settled_done d e).1
      by (Err f) e = absurd (let p = number_positive f in let z = (settled_refused f e).0 ∙ h in omega (arith, p, z))
