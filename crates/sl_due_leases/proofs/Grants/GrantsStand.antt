-- What the facts of holdings say of a grant: it is held, for what ends in an entry ends before its grants.
use Rattle.sl_due_facts.specs.Acts.TraceSoFar.{entry_of}
use Rattle.sl_trace.specs.Sessions.{session_numbered}
use Rattle.sl_due_facts.specs.Facts.HeardCall.{heard_by}
use Rattle.sl_words.proofs.CaseLaws.{one_value}
use Rattle.sl_due_leases.specs.Grants.GrantLaws.{GrantsAreLawful, GrantsStand, StandsGranted}
use Rattle.sl_trace.specs.Traces.{holdings, is_ended_by, is_shared, same_place}
use Rattle.sl_due_leases.proofs.Holdings.PlainPlaces.{place_turned}
use Rattle.sl_trace.specs.declared.effects.Grant.{Grant}
use Rattle.sl_trace.specs.declared.effects.Mode.{Mode}
use Rattle.sl_trace.specs.declared.effects.Mode.TheVariants.{Exclusive}
use Rattle.std.proofs.Common.{ap, refl, subst, sym, ◌∙◌}
use Rattle.std.proofs.lemmas.List.Elements.{Contains-append_right}
use Rattle.std.specs.Prelude.{Bool, Contains, IsSome, false, filter, not, true, ◌&&◌, ◌∷◌, ◌≡◌}

pub grants_stand : GrantsStand
grants_stand st past e heard g h there =
    let o = h.owned g held in (
      o.0,
      o.1,
      record {
        lockspace = o.3;
        placed = o.4;
        alone = λ k inside same apart. both k inside same apart (is_shared k.mode) (is_shared g.mode) refl refl;
        single = h.single g held;
        taken = λ exclusive. (h.stands g o.0 held o.1 (mode_is g.mode exclusive)).taken;
        not_freed = λ exclusive. (h.stands g o.0 held o.1 (mode_is g.mode exclusive)).not_freed;
        ballot = λ exclusive. (h.stands g o.0 held o.1 (mode_is g.mode exclusive)).ballot;
      },
    ) where
      held : Contains (holdings (e ∷ past)) g
      held = Contains-append_right (filter (λ k. not (is_ended_by e.effects.ends k)) (holdings past)) e.effects.grants g there

      mode_is : (m : Mode) → m ≡ Exclusive → is_shared m ≡ false
      mode_is m is = ap (λ k. is_shared k) is

      both : (k : Grant) → Contains (holdings (e ∷ past)) k → same_place k.path k.offset g.path g.offset ≡ true → (k.process ≡ g.process → ⊥) → (a b : Bool) → is_shared k.mode ≡ a → is_shared g.mode ≡ b
          → (is_shared k.mode && is_shared g.mode) ≡ true
      both k inside same apart true true is at = ap (λ b. b && is_shared g.mode) is ∙ at
      both k inside same apart a false is at = absurd (apart (ap (λ (z : Grant). z.process) (h.alone g k held inside same at)))
      both k inside same apart false true is at =
          absurd (apart (ap (λ (z : Grant). z.process) (sym (h.alone k g inside held (place_turned k.path g.path k.offset g.offset same) is))))

pub grants_are_lawful : GrantsAreLawful
grants_are_lawful x h orphans active =
    record {
      owned = λ g there. (let k = grants_stand x.setting x.past (entry_of x) (heard_by x.input) g h there in subst (λ o. IsSome o) (sym k.1) refl);
      each = λ g s there its.
          let k = grants_stand x.setting x.past (entry_of x) (heard_by x.input) g h there in
          let v = subst (λ z. StandsGranted x.setting (entry_of x ∷ x.past) z g) (one_value k.0 s (session_numbered x.setting (entry_of x ∷ x.past) g.session) k.1 its) k.2 in
          record {
            active = λ own. active g s there its own;
            lockspace = v.lockspace;
            placed = v.placed;
            alone = v.alone;
            single = v.single;
            taken = v.taken;
            not_freed = v.not_freed;
          };
      orphans = orphans;
    }
