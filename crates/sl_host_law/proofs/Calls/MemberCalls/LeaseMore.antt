-- A lease after one more call of its own: each thing asked of its calls, one by one.
use Rattle.sl_area.specs.AreaSizes.{Layout}
use Rattle.sl_host_state.specs.KeptState.{LeaseState}
use Rattle.sl_host_state.specs.declared.kept_parts.TopNumber.{TopNumber}
use Rattle.sl_host_state.specs.MadeEffects.{ballot_calling, kept_lease_call, lease_calling, pair_calling}
use Rattle.sl_host_state.proofs.Pairs.{PairStands, pair_calls}
use Rattle.sl_host_state.specs.HostStands.{IsWaiting, LeaseStands, free_written}
use Rattle.sl_trace.specs.Leases.{Phase2_write, Read_before_free, ballot_after, block_submitted, block_written, free_left, freed_by, is_again, is_area_read, is_at, is_free_write, is_lease_call, is_leader_of, lease_step, may_show_shared, name_sought, open_ballot, settles_free, turn_written, verified_name}
use Rattle.sl_sector.specs.declared.sector.Block.{Block}
use Rattle.sl_sector.specs.declared.sector.Leader.{Leader}
use Rattle.sl_sector.specs.declared.sector.Owner.{Owner}
use Rattle.sl_trace.specs.Traces.{Submitted, new_call}
use Rattle.sl_trace.specs.declared.effects.Call.{Call}
use Rattle.sl_trace.specs.declared.effects.LeaseStep.{LeaseStep}
use Rattle.sl_trace.specs.declared.effects.Work.{Work}
use Rattle.sl_words.proofs.CaseLaws.{false_is_true, none_some, some_value}
use Rattle.sl_words.proofs.WordLaws.{choose_some}
use Rattle.sl_words.specs.Words.{choose, some_is}
use Rattle.std.proofs.Common.{ap, refl, subst, ◌∙◌}
use Rattle.std.specs.List.{AllByRecursion}
use Rattle.std.specs.Option.{option_map_or, option_or}
use Rattle.std.specs.Prelude.{Bool, IsTrue, List, None, Option, Some, false, is_some, max, not, option_and_then, option_map, true, ℕ, ◌&&◌, ◌==◌, ◌||◌, ◌∷◌, ◌≡◌}

-- A call of phase 2 is in the instance whose greatest number is known.
abbrev pub FollowsRead : LeaseState → Submitted → Type 0
FollowsRead l c = is_at Phase2_write c ≡ true → (b : Block) → block_written c ≡ Some b → (t : TopNumber) × (l.top ≡ Some t) × (t.instance ≡ b.lver)

-- A second read finds something kept of the first, and is not made twice.
abbrev pub FollowsFirst : LeaseState → Submitted → Type 0
FollowsFirst l c = is_again c ≡ true → IsTrue (is_some l.pair.first) × (l.pair.again ≡ false)

module _ (at reading : ℕ) (call : Call) where
  abbrev c : Submitted
  c = new_call at reading call

  own_more : (ms : List Submitted) (own : Option Block) → block_submitted ms ≡ own → block_submitted (c ∷ ms) ≡ option_or (block_written c) own
  own_more ms own is = by (block_written c) where
    by : (o : Option Block) → elim o as (λ x. Option Block) [ Some b ↦ Some b | None ↦ block_submitted ms ] ≡ option_or o own
    by None = is
    by (Some b) = refl

  name_more : (g : Layout) (lockspace : List ℕ) (ms : List Submitted) → verified_name g lockspace (c ∷ ms) ≡ verified_name g lockspace ms
  name_more g lockspace ms = by (name_sought call.purpose) (is_area_read c) where
    by : (o : Option (List ℕ)) (b : Bool)
        → elim (elim o as (λ x. Option (List ℕ)) [
          | None ↦ None
          | Some name ↦ elim (elim b as (λ x. Option Leader) [ false ↦ None | true ↦ None ]) as (λ x. Option (List ℕ)) [ None ↦ None | Some l ↦ choose (is_leader_of g lockspace name l) name ]
        ]) as (λ x. List ℕ) [ Some name ↦ name | None ↦ verified_name g lockspace ms ]
        ≡ verified_name g lockspace ms
    by None b = refl
    by (Some name) true = refl
    by (Some name) false = refl

  ballot_more : (g : Layout) (ms : List Submitted) (before : Option ℕ) → open_ballot g ms ≡ before → open_ballot g (c ∷ ms) ≡ ballot_calling c before
  ballot_more g ms before is = ap (ballot_after g c ms) is ∙ by (block_written c) where
    by : (o : Option Block)
        → elim o as (λ x. Option ℕ) [
          | Some b ↦ elim (is_at Phase2_write c) as (λ x. Option ℕ) [ true ↦ Some b.lver | false ↦ option_and_then (λ n. choose (b.lver == n) n) before ]
          | None ↦ before
        ]
        ≡ elim o as (λ x. Option ℕ) [
          | None ↦ before
          | Some b ↦ elim (is_at Phase2_write c) as (λ x. Option ℕ) [ true ↦ Some b.lver | false ↦ option_and_then (λ n. choose (b.lver == n) n) before ]
        ]
    by None = refl
    by (Some b) = refl

  shown_more : (ms : List Submitted) (shown : Bool) → may_show_shared ms ≡ shown → may_show_shared (c ∷ ms) ≡ option_map_or (λ b. b.shared || shown) (block_written c) shown
  shown_more ms shown is = by (block_written c) where
    within : (b : Bool) → elim b as (λ x. Bool) [ true ↦ true | false ↦ may_show_shared ms ] ≡ (b || shown)
    within true = refl
    within false = is

    by : (o : Option Block)
        → elim o as (λ x. Bool) [ None ↦ may_show_shared ms | Some b ↦ elim b.shared as (λ x. Bool) [ true ↦ true | false ↦ may_show_shared ms ] ]
        ≡ option_map_or (λ b. b.shared || shown) o shown
    by None = is
    by (Some b) = within b.shared

  not_settled : (g : Layout) (self : Owner) (n : ℕ) (ms : List Submitted) → settles_free g self n c ms ≡ false
  not_settled g self n ms = by (is_free_write n c) (is_at Read_before_free c) where
    by : (a b : Bool) → (a && false || elim b as (λ x. Bool) [ false ↦ false | true ↦ false ]) ≡ false
    by true true = refl
    by true false = refl
    by false true = refl
    by false false = refl

  won_more : (g : Layout) (self : Owner) (ms : List Submitted) → free_left g self (c ∷ ms) ≡ free_left g self ms
  won_more g self ms = by (free_left g self ms) where
    by : (o : Option ℕ) → option_and_then (λ n. choose (not (settles_free g self n c ms)) n) o ≡ o
    by None = refl
    by (Some n) = ap (λ b. choose (not b) n) (not_settled g self n ms)

  waits : (ms : List Submitted) → is_lease_call c ≡ true → AllByRecursion (λ m. IsTrue (is_some m.answer)) ms → IsWaiting (kept_lease_call c) (c ∷ ms)
  waits ms is all = by (lease_step call.purpose) refl is where
    by : (o : Option (Work × LeaseStep)) → lease_step call.purpose ≡ o → is_some o ≡ true
        → IsWaiting
        (option_map (λ p. record { number = call.number; work = p.0; step = p.1; frees = free_written c; clears = some_is (λ b. not b.shared) (block_written c); turn = turn_written c }) o) (c ∷ ms)
    by None step some = absurd (false_is_true some)
    by (Some p) step some = ((refl, refl, step, refl, refl, refl), all)

  -- A ballot that stays open is the old one.
  opened_more : (l : LeaseState) (n : ℕ) → FollowsRead l c → ((k : ℕ) → l.ballot ≡ Some k → (t : TopNumber) × (l.top ≡ Some t) × (t.instance ≡ k)) → ballot_calling c l.ballot ≡ Some n
      → (t : TopNumber) × (l.top ≡ Some t) × (t.instance ≡ n)
  opened_more l n follows opened is = by (block_written c) refl is where
    kept : (b : Block) (o : Option ℕ) → l.ballot ≡ o → option_and_then (λ k. choose (b.lver == k) k) o ≡ Some n → (t : TopNumber) × (l.top ≡ Some t) × (t.instance ≡ n)
    kept b None at has = absurd (none_some n has)
    kept b (Some k) at has = opened n (at ∙ ap (λ z. Some z) (choose_some (b.lver == k) k n has).1)

    begun : (b : Block) (phase : Bool) → is_at Phase2_write c ≡ phase → block_written c ≡ Some b
        → elim phase as (λ x. Option ℕ) [ true ↦ Some b.lver | false ↦ option_and_then (λ k. choose (b.lver == k) k) l.ballot ] ≡ Some n → (t : TopNumber) × (l.top ≡ Some t) × (t.instance ≡ n)
    begun b true phase writes has = let t = follows phase b writes in (t.0, t.1, t.2 ∙ some_value b.lver n has)
    begun b false phase writes has = kept b l.ballot refl has

    by : (o : Option Block) → block_written c ≡ o
        → elim o as (λ x. Option ℕ) [
          | None ↦ l.ballot
          | Some b ↦ elim (is_at Phase2_write c) as (λ x. Option ℕ) [ true ↦ Some b.lver | false ↦ option_and_then (λ k. choose (b.lver == k) k) l.ballot ]
        ] ≡ Some n
        → (t : TopNumber) × (l.top ≡ Some t) × (t.instance ≡ n)
    by None writes has = opened n has
    by (Some b) writes has = begun b (is_at Phase2_write c) refl writes has

  pub lease_more : (g : Layout) (lockspace : List ℕ) (self : Owner) (l : LeaseState) (ms : List Submitted) → is_lease_call c ≡ true → l.waiting ≡ None → FollowsRead l c
      → FollowsFirst l c → LeaseStands g lockspace self l ms → LeaseStands g lockspace self (lease_calling c l) (c ∷ ms)
  lease_more g lockspace self l ms works free follows again s =
      let pairs : PairStands g self.id (pair_calling (is_again c) l.pair) (c ∷ ms) = pair_calls g self.id l.pair c ms refl again (record { turn = s.turn; again = s.again; kept = s.kept; second = s.second }) in
      record {
        own = own_more ms l.own s.own;
        name = name_more g lockspace ms ∙ s.name;
        freed = ap (λ n. max (freed_by c) n) s.freed;
        ballot = ballot_more g ms l.ballot s.ballot;
        shown = shown_more ms l.shown s.shown;
        won = won_more g self ms ∙ s.won;
        waiting = waits ms works (subst (λ o. IsWaiting o ms) free s.waiting);
        top = s.top;
        opened = λ n is. opened_more l n follows s.opened is;
        turn = pairs.turn;
        again = pairs.again;
        kept = pairs.kept;
        second = pairs.second;
      }
