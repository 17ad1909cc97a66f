-- Laws of the DMA registers in the card: one read or written, and the start that a write of DMACTL is.
use Rattle.std.specs.Prelude.{◌≡◌, refl, ⊤, List, ℕ, Ok, Err}
use Rattle.std.proofs.Common.{ap, sym, subst, ◌∙◌}
use Rattle.model.specs.Sides.{Side}
use Rattle.model.specs.Transfer.{Request}
use Rattle.model.specs.Dma as model
use Rattle.model.specs.Dma.{Programmed, programmed, control_written, request_in}
use Rattle.model.specs.State.{with_dma}
use Rattle.model.specs.RegisterMap.{dma_register, dmactl}
use Rattle.model.specs.Registers.{plainly, start_row, write_row}
use Rattle.access.specs.declared.Done.{Done}
use Rattle.access.specs.declared.Refusal.{Refusal}
use Rattle.dma.specs.declared.Dma.{Dma}
use Rattle.dma.specs.Bridge.{dma_as}
use Rattle.card.specs.declared.Card.{Card}
use Rattle.card.specs.declared.Outcome.{Outcome}
use Rattle.card.specs.Bridge.{state_as, world_as, Settles}
use Rattle.card.specs.Laws.{dma_is_lem, refused_settles, done_settles, settled_refused, settled_done}

module _ (c : Card) (m w : List ℕ) where
  -- a value of the registers, as the card has them
  pub shown_plainly : (d v : ℕ) (f : model.Dma → ℕ) {r : Outcome} → v ≡ f (dma_as c.dma) → Settles (plainly d v) c m w r m w → Settles (plainly d (f (state_as c).dma)) c m w r m w
  shown_plainly d v f {r} e = subst (λ n. Settles (plainly d n) c m w r m w) (e ∙ ap f (sym (dma_is_lem c)))

  -- the registers changed in the card, as they change by themselves
  changed : (k j : Card) (d : Dma) (f : model.Dma → model.Dma) → dma_as d ≡ f (dma_as c.dma) → state_as k ≡ with_dma (dma_as d) (state_as j) → state_as k ≡ with_dma (f (state_as c).dma) (state_as j)
  changed k j d f e s = s ∙ ap (λ d. with_dma d (state_as j)) (e ∙ ap f (sym (dma_is_lem c)))

  module _ (side : Side) (dword : ℕ) where
    pub register_written_lem : (p : Programmed) (k : Card) (d : Dma) → dma_as d ≡ programmed p dword (dma_as c.dma) → state_as k ≡ with_dma (dma_as d) (state_as c) →
        Settles (write_row (dma_register p) (world_as c m w) side dword) c m w (record { card = k; answer = Ok (record { v = 0; x = 0 }) }) m w
    register_written_lem p k d e s =
        done_settles (write_row (dma_register p) (world_as c m w) side dword) c m w (record { card = k; answer = Ok (record { v = 0; x = 0 }) }) refl refl
        (record { answer = refl; state = changed k c d (programmed p dword) e s })

    -- kind 14 with the transfer that is programmed
    pub start_programmed : (t : Request) {r : Outcome} → t ≡ request_in (dma_as c.dma) dword → Settles (start_row (world_as c m w) side t) c m w r m w →
        Settles (start_row (world_as c m w) side (request_in (state_as c).dma dword)) c m w r m w
    start_programmed t {r} e = subst (λ t. Settles (start_row (world_as c m w) side t) c m w r m w) (e ∙ ap (λ d. request_in d dword) (sym (dma_is_lem c)))

    module _ {o : Outcome} (started : Settles (start_row (world_as c m w) side (request_in (state_as c).dma dword)) c m w o m w) where
      pub start_refused : (f : Refusal) → o.answer ≡ Err f → Settles (write_row dmactl (world_as c m w) side dword) c m w (record { card = c; answer = Err f }) m w
      start_refused f e =
          refused_settles (write_row dmactl (world_as c m w) side dword) c m w {T = ⊤} (Err f) f refl
          (settled_refused (start_row (world_as c m w) side (request_in (state_as c).dma dword)) c m w started f e).0

      pub start_done : (done : Done) (k : Card) (d : Dma) → o.answer ≡ Ok done → dma_as d ≡ control_written side dword (dma_as c.dma) → state_as k ≡ with_dma (dma_as d) (state_as o.card) →
          Settles (write_row dmactl (world_as c m w) side dword) c m w (record { card = k; answer = Ok done }) m w
      start_done done k d a e s =
          let r = settled_done (start_row (world_as c m w) side (request_in (state_as c).dma dword)) c m w started done a in
          done_settles (write_row dmactl (world_as c m w) side dword) c m w (record { card = k; answer = Ok done }) r.0 refl
          (record { answer = sym a ∙ r.1.answer; state = changed k o.card d (control_written side dword) e s ∙ ap (with_dma (control_written side dword (state_as c).dma)) r.1.state })
