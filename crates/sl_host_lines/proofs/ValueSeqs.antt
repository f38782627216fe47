-- The next seq of a value is that of the decision that writes it.
use Rattle.sl_due.specs.declared.decision.Decision.TheVariants.{Replies, SetsValue}
use Rattle.sl_due.specs.declared.decision.Decision.{Decision}
use Rattle.sl_host_law.specs.Decisions.CommandDecisions.{member_sets, value_seq}
use Rattle.sl_host_lines.specs.LastVersions.{last_version}
use Rattle.sl_host_state.specs.KeptState.{LeaseState, MemberState}
use Rattle.sl_host_state.specs.MadeEffects.{is_lease_on}
use Rattle.sl_host_state.specs.declared.kept_parts.ValuePair.{ValuePair}
use Rattle.sl_trace.specs.declared.effects.Grant.{Grant}
use Rattle.sl_trace.specs.declared.reply.Limited.TheVariants.{Seq as SeqLimit}
use Rattle.sl_trace.specs.declared.reply.Reply.TheVariants.{Limit as LimitReached}
use Rattle.sl_trace.specs.declared.effects.Spot.{Spot}
use Rattle.sl_value.specs.Versions.{next_seq}
use Rattle.sl_words.proofs.CaseLaws.{none_some, some_value}
use Rattle.sl_words.specs.Bounds.{is_number}
use Rattle.sl_words.specs.Words.{choose}
use Rattle.std.proofs.Common.{Bool, List, None, Option, Some, ap, false, if◌then◌else◌, refl, sym, true, ℕ, ◌+◌, ◌==◌, ◌≡◌}
use Rattle.std.specs.Option.{option_map_or}
use Rattle.std.specs.Prelude.{find, option_and_then}

seq_kept : (o : Option ValuePair) (lver : ℕ) → next_seq (last_version o) lver ≡ option_map_or (λ v. v.seq) (option_and_then (λ v. choose (v.lver == lver) v) o) 0 + 1
seq_kept None lver = refl
seq_kept (Some v) lver = by (v.lver == lver)
  where
    by : (b : Bool) → (if b then v.seq else 0) + 1 ≡ option_map_or (λ (w : ValuePair). w.seq) (choose b v) 0 + 1
    by true = refl
    by false = refl

-- Of a member.
pub next_is : (m : MemberState) (at : Spot) (lver : ℕ)
    → next_seq (last_version (option_and_then (λ l. l.value) (find (is_lease_on at) m.leases))) lver ≡ value_seq m at lver
next_is m at lver = seq_kept (option_and_then (λ (l : LeaseState). l.value) (find (is_lease_on at) m.leases)) lver

-- Where there is one it is written.
pub is_set : (m : MemberState) (at : Spot) (g : Grant) (bytes : List ℕ) (next seq : ℕ) → Some seq ≡ choose (is_number next) next
    → SetsValue m.who at (record { host = m.who.id; lver = g.lver; seq = seq; bytes = bytes }) ≡ member_sets m at g next bytes
is_set m at g bytes next seq found = by (is_number next) found
  where
    by : (b : Bool) → Some seq ≡ choose b next
        → SetsValue m.who at (record { host = m.who.id; lver = g.lver; seq = seq; bytes = bytes })
        ≡ elim b [ false ↦ Replies (LimitReached SeqLimit) | true ↦ SetsValue m.who at (record { host = m.who.id; lver = g.lver; seq = next; bytes = bytes }) ]
    by true is = ap (λ n. SetsValue m.who at (record { host = m.who.id; lver = g.lver; seq = n; bytes = bytes })) (some_value seq next is)
    by false is = absurd (none_some seq (sym is))

-- Where there is none its limit is told.
pub is_refused : (m : MemberState) (at : Spot) (g : Grant) (bytes : List ℕ) (next : ℕ) → None ≡ choose (is_number next) next
    → Replies (LimitReached SeqLimit) ≡ member_sets m at g next bytes
is_refused m at g bytes next none = by (is_number next) none
  where
    by : (b : Bool) → None ≡ choose b next
        → Replies (LimitReached SeqLimit)
        ≡ elim b [ false ↦ Replies (LimitReached SeqLimit) | true ↦ SetsValue m.who at (record { host = m.who.id; lver = g.lver; seq = next; bytes = bytes }) ]
    by true is = absurd (none_some next is)
    by false is = refl
