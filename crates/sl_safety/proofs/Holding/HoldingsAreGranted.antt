-- A holding after an entry was one before it, or the entry granted it; so each goes back to a grant, without a gap.
use Rattle.sl_run_law.proofs.Front.JoinedLists.{contains_append}
use Rattle.sl_safety.specs.Holding.HoldingOrigins.{GrantedIn, HoldingsAreGranted}
use Rattle.sl_words.proofs.Lists.{contains_none, kept_inside}
use Rattle.sl_trace.specs.Traces.{Trace, holdings, is_ended_by}
use Rattle.sl_trace.specs.declared.effects.Entry.{Entry}
use Rattle.sl_trace.specs.declared.effects.Grant.{Grant}
use Rattle.sl_words.proofs.CaseLaws.{none_some}
use Rattle.std.proofs.Common.{ap, inl, inr, refl, subst}
use Rattle.std.specs.Prelude.{Contains, drop, filter, not, slice_get, [], ◌++◌, ◌∷◌, ◌≡◌, ◌⊎◌}

pub held_or_given : (e : Entry) (past : Trace) (g : Grant) → Contains (holdings (e ∷ past)) g → Contains (holdings past) g ⊎ Contains e.effects.grants g
held_or_given e past g there = by (contains_append (filter (λ (h : Grant). not (is_ended_by e.effects.ends h)) (holdings past)) e.effects.grants g there) where
  by : Contains (filter (λ (h : Grant). not (is_ended_by e.effects.ends h)) (holdings past)) g ⊎ Contains e.effects.grants g → Contains (holdings past) g ⊎ Contains e.effects.grants g
  by (inl old) = inl (kept_inside (λ (h : Grant). not (is_ended_by e.effects.ends h)) (holdings past) g old).0
  by (inr new) = inr new

-- ---- what is said of a trace from an entry on

-- Of the front that is that entry's ..
pub stands_first : (P : Trace → Type 0) → P [] → (newer older : Trace) → [] ≡ newer ++ older → P older
stands_first P h [] older is = subst P is h
stands_first P h (x ∷ newer) older is = absurd (none_some x (ap (λ zs. slice_get zs 0) is))

-- .. and of each after it, the newest last.
pub stands_longer : (P : Trace → Type 0) (e : Entry) (later : Trace) → P (e ∷ later) → ((newer older : Trace) → later ≡ newer ++ older → P older)
    → (newer older : Trace) → e ∷ later ≡ newer ++ older → P older
stands_longer P e later h before [] older is = subst P is h
stands_longer P e later h before (x ∷ newer) older is = before newer older (ap (λ zs. drop 1 zs) is)

-- ---- the law

granted_now : (e : Entry) (past : Trace) (g : Grant) → Contains e.effects.grants g → Contains (holdings (e ∷ past)) g → GrantedIn (e ∷ past) g
granted_now e past g given held =
    record { later = []; entry = e; past = past; whole = refl; given = given; stood = stands_first (λ older. Contains (holdings (older ++ e ∷ past)) g) held }

granted_before : (e : Entry) (past : Trace) (g : Grant) → Contains (holdings (e ∷ past)) g → GrantedIn past g → GrantedIn (e ∷ past) g
granted_before e past g held r =
    record {
      later = e ∷ r.later;
      entry = r.entry;
      past = r.past;
      whole = ap (λ zs. e ∷ zs) r.whole;
      given = r.given;
      stood = stands_longer (λ older. Contains (holdings (older ++ r.entry ∷ r.past)) g) e r.later (subst (λ t. Contains (holdings (e ∷ t)) g) r.whole held) r.stood;
    }

pub holdings_are_granted : HoldingsAreGranted
holdings_are_granted [] g held = absurd (contains_none g held)
holdings_are_granted (e ∷ past) g held = by (λ old. holdings_are_granted past g old) (held_or_given e past g held) where
  by : (Contains (holdings past) g → GrantedIn past g) → Contains (holdings past) g ⊎ Contains e.effects.grants g → GrantedIn (e ∷ past) g
  by rest (inl old) = granted_before e past g held (rest old)
  by rest (inr new) = granted_now e past g new held
