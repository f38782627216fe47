-- What a write is, beside its own block: a change of mode keeps the ballot, and phase 1 goes by the own block. Both rest on it that a
-- session that writes has a host's id.
use Rattle.sl_ballot_law.specs.Ballots.{IsPhase1, KeepsBallot}
use Rattle.sl_ballot_law.specs.History.{History, Owner as Holder}
use Rattle.sl_run_law.specs.Leases.Ways.{ByMode}
use Rattle.sl_safety.proofs.Resources.BlockOrigins.{WrittenAt}
use Rattle.sl_safety.proofs.Resources.Bases.{Based, block_of_base}
use Rattle.sl_safety.proofs.Resources.CallParts.{Standing}
use Rattle.sl_safety.specs.Resources.Histories.{base_of, history_block, is_host}
use Rattle.sl_safety.specs.Resources.HistoryLaws.{history_of_line, spot_of_line}
use Rattle.sl_run.specs.Runs.{Happening}
use Rattle.sl_run.specs.Safety.{LawfulRun, world_at}
use Rattle.sl_run.specs.Worlds.{Program, World}
use Rattle.sl_run.specs.declared.header.Header.{Header}
use Rattle.sl_run.specs.declared.header.ResourceLine.{ResourceLine}
use Rattle.sl_sector.specs.declared.sector.Block.{Block}
use Rattle.sl_words.proofs.CaseLaws.{true_is_false}
use Rattle.std.proofs.Common.{ap, inl, inr, subst, sym, ◌∙◌}
use Rattle.std.specs.Option.{option_map_or}
use Rattle.std.specs.Prelude.{Contains, List, true, ℕ, ◌<◌, ◌≡◌, ◌≤◌}

-- The block of the base is the own block, where the session's id is a host's.
pub own_is_base : (p : Program) (h : Header) (xs : List Happening) → LawfulRun p h xs → (r : ResourceLine) → Contains h.resources r → (e : ℕ) (x : WrittenAt p h xs r e)
    → (s : Standing (world_at p h xs) x.sent) → is_host (world_at p h xs) s.session.id ≡ true → (b : Based p h xs r x.sent s x.block)
    → (history_of_line p h xs r).block ((history_of_line p h xs r).base e) ≡ history_block b.own
own_is_base p h xs run r there e x s host b =
    let w : World = world_at p h xs in
    let H : History = history_of_line p h xs r in
    let base : H.base e ≡ base_of w (spot_of_line r) x.sent = ap (λ o. option_map_or (base_of w (spot_of_line r)) o 0) x.is in
    elim (block_of_base p h xs run r there x.sent s b.own b.base) as (λ z. H.block (H.base e) ≡ history_block b.own) [
      | inl own ↦ ap (λ k. H.block k) base ∙ own
      | inr none ↦ absurd (true_is_false (sym host ∙ none.1))
    ]

pub holder_as : (i g i' g' : ℕ) → i ≡ i' → g ≡ g' → (let o : Holder = record { id = i; generation = g } in o) ≡ record { id = i'; generation = g' }
holder_as i g i' g' p q =
    ap (λ k. let o : Holder = record { id = k; generation = g } in o) p ∙ ap (λ k. let o : Holder = record { id = i'; generation = k } in o) q

-- A change of mode keeps the ballot.
pub mode_keeps : (h : History) (e : ℕ) (own b : Block) → h.block e ≡ history_block b → h.block (h.base e) ≡ history_block own → ByMode own b → KeepsBallot h e
mode_keeps h e own b now base m =
    record {
      lver = ap (λ y. y.lver) now ∙ m.lver ∙ ap (λ y. y.lver) (sym base);
      mbal = ap (λ y. y.mbal) now ∙ m.mbal ∙ ap (λ y. y.mbal) (sym base);
      bal = ap (λ y. y.bal) now ∙ m.bal ∙ ap (λ y. y.bal) (sym base);
      inp = ap (λ y. y.inp) now ∙ holder_as b.inp b.inp_gen own.inp own.inp_gen m.inp.0 m.inp.1 ∙ ap (λ y. y.inp) (sym base);
    }

-- Phase 1 goes by the own block; whose its number is, is said apart.
pub phase1_goes : (h : History) (e id : ℕ) (own b : Block) → h.block e ≡ history_block b → h.block (h.base e) ≡ history_block own → (h.writer e).id ≡ id → h.host_of b.mbal ≡ id
    → 1 ≤ b.lver → (own.lver ≡ b.lver → own.mbal < b.mbal) → (own.lver ≡ b.lver → b.bal ≡ own.bal) → (own.lver ≡ b.lver → (b.inp ≡ own.inp) × (b.inp_gen ≡ own.inp_gen))
    → (own.lver < b.lver → b.bal ≡ 0) → IsPhase1 h e
phase1_goes h e id own b now base writer host begun more bal inp anew =
    let same : (h.block (h.base e)).lver ≡ (h.block e).lver → own.lver ≡ b.lver = λ k. ap (λ y. y.lver) (sym base) ∙ k ∙ ap (λ y. y.lver) now in
    record {
      instance = subst (λ y. 0 < y.lver) (sym now) begun;
      host = ap (λ y. h.host_of y.mbal) now ∙ host ∙ sym writer;
      mbal = λ k. subst (λ y. y.mbal < (h.block e).mbal) (sym base) (subst (λ y. own.mbal < y.mbal) (sym now) (more (same k)));
      bal = λ k. ap (λ y. y.bal) now ∙ bal (same k) ∙ ap (λ y. y.bal) (sym base);
      inp = λ k. let i = inp (same k) in ap (λ y. y.inp) now ∙ holder_as b.inp b.inp_gen own.inp own.inp_gen i.0 i.1 ∙ ap (λ y. y.inp) (sym base);
      anew = λ k. ap (λ y. y.bal) now ∙ anew (subst (λ y. y.lver < b.lver) base (subst (λ y. (h.block (h.base e)).lver < y.lver) now k));
    }
