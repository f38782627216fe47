-- What a reply, a move and a call leave of the sessions and of what is known of connections.
use Rattle.sl_due_facts.specs.Acts.Acts.{Has}
use Rattle.sl_due_facts.specs.Acts.TraceSoFar.{entry_of}
use Rattle.sl_due.specs.DueTimeOuts.{remove_connection}
use Rattle.sl_due.specs.Steps.{Step, add_call_of, add_move, add_reply, seen, when}
use Rattle.sl_due_facts.proofs.Jobs.CallsStay.{IsLate, calls_stay}
use Rattle.sl_run.specs.LawfulConnections.{is_covered}
use Rattle.sl_due_facts.proofs.AddedEffects.CallsGrow.{any_more, others_stay, same_sessions}
use Rattle.sl_due_facts.proofs.AddedEffects.EffectsAreTold.{effects_are_told}
use Rattle.sl_due_facts.proofs.AddedEffects.JoinedCallsKeepOrder.{one_number}
use Rattle.sl_words.proofs.Lists.{contains_first, contains_none}
use Rattle.sl_words.proofs.Numbers.{number_itself}
use Rattle.sl_words.proofs.Options.{not_some}
use Rattle.sl_due_facts.proofs.Connections.ConnectionsChange.{Alters, IsAlone, altered_away, same_connections}
use Rattle.sl_due_facts.proofs.Connections.ConnectionsNamed.{connected, register_other, remove_named, remove_other, renew_other}
use Rattle.sl_due_facts.proofs.Connections.SessionParts.{SameSession, same_itself, same_then}
use Rattle.sl_due_facts.specs.Connections.ConnectionLaws.{HasConnectionFacts}
use Rattle.sl_due_facts.proofs.Sessions.NameEffects.{call_present, joined_of, move_present, refused_of, reply_joins_more, reply_present}
use Rattle.sl_trace.specs.Sessions.{calls_of, is_call_of, is_join_call, is_join_done, joined_after, refused_after, removed_after, sessions}
use Rattle.sl_trace.specs.declared.session.Session.{Session}
use Rattle.sl_due_facts.specs.Facts.HeardCall.{IsOpen, heard_by}
use Rattle.sl_due_facts.specs.Facts.SessionFacts.{ConnectionFacts}
use Rattle.sl_trace.specs.WatchdogConnections.{Connection, after_move, connection_named, connections, is_registered, last_registering, registers, unregisters}
use Rattle.sl_trace.specs.Traces.{Replied, Setting, Submitted, Trace, is_write, new_call, next_call, reply_to}
use Rattle.sl_trace.specs.declared.effects.Call.{Call}
use Rattle.sl_trace.specs.declared.effects.JoinStep.TheVariants.{FirstRead}
use Rattle.sl_trace.specs.declared.effects.Move.TheVariants.{Register, Renew, Unregister}
use Rattle.sl_trace.specs.declared.effects.Move.{Move}
use Rattle.sl_trace.specs.declared.effects.Op.{Op}
use Rattle.sl_trace.specs.declared.effects.Purpose.{Purpose}
use Rattle.sl_trace.specs.declared.reply.Reply.{Reply}
use Rattle.sl_run_law.proofs.Sessions.SessionNames.{same_name}
use Rattle.sl_words.proofs.CaseLaws.{is_false, none_some, not_both}
use Rattle.sl_words.specs.Words.{choose}
use Rattle.std.proofs.Common.{ap, inl, inr, refl, subst, sym, ◌∙◌}
use Rattle.std.proofs.lemmas.Bool.{eqb-true}
use Rattle.std.proofs.lemmas.Slice.Eq.{bytes_eq-Decides}
use Rattle.std.specs.Prelude.{Bool, Contains, List, None, Option, Some, [], bytes_eq, false, filter, is_some, length, not, option_and_then, true, ℕ, ◌&&◌, ◌++◌, ◌+◌, ◌==◌, ◌∷◌, ◌≡◌, ◌⊎◌}

-- ---- replies

-- The job is no joining's.
abbrev pub IsOtherJob : Step → ℕ → Type 0
IsOtherJob x j = (z : Session) → Contains (sessions x.setting (seen x)) z → z.job ≡ Some j → ⊥

reply_elsewhere : (y : Step) (j : ℕ) (r : Reply) (n : ℕ) → (j ≡ n → ⊥) → reply_to (seen (add_reply j r y)) n ≡ reply_to (seen y) n
reply_elsewhere y j r n other = effects_are_told.other_replies (record { job = j; reply = r }) (entry_of y) y.past n (is_false (j == n) (λ same. other (eqb-true j n same)))

pub reply_same : (y : Step) (j : ℕ) (r : Reply) (z : Session) → IsLate y r → (z.job ≡ Some j → ⊥) → SameSession (seen y) (seen (add_reply j r y)) z
reply_same y j r z after other =
    record {
      joined = joined z.job refl;
      removed = refl;
      refused = refused z.job refl;
      calls = ap (λ ms. filter (is_call_of z) ms) (calls_stay y j r after);
    } where
      told : (i : ℕ) → z.job ≡ Some i → reply_to (seen (add_reply j r y)) i ≡ reply_to (seen y) i
      told i its = reply_elsewhere y j r i (λ same. other (its ∙ ap (λ n. Some n) (sym same)))

      joined : (o : Option ℕ) → z.job ≡ o → joined_after (seen (add_reply j r y)) z ≡ joined_after (seen y) z
      joined None its =
          ap (λ (o : Option ℕ). elim o as (λ q. Option ℕ) [ None ↦ Some 0 | Some i ↦ option_and_then (λ (b : Replied). choose (is_join_done b.reply) (b.at + 1)) (reply_to (seen (add_reply j r y)) i) ]) its
          ∙ sym (ap (λ (o : Option ℕ). elim o as (λ q. Option ℕ) [ None ↦ Some 0 | Some i ↦ option_and_then (λ (b : Replied). choose (is_join_done b.reply) (b.at + 1)) (reply_to (seen y) i) ]) its)
      joined (Some i) its =
          joined_of (seen (add_reply j r y)) z i its ∙ (ap (λ o. option_and_then (λ (b : Replied). choose (is_join_done b.reply) (b.at + 1)) o) (told i its) ∙ sym (joined_of (seen y) z i its))

      refused : (o : Option ℕ) → z.job ≡ o → refused_after (seen (add_reply j r y)) z ≡ refused_after (seen y) z
      refused None its =
          ap (λ (o : Option ℕ). elim o as (λ q. Option ℕ) [ None ↦ None | Some i ↦ option_and_then (λ (b : Replied). choose (not (is_join_done b.reply)) (b.at + 1)) (reply_to (seen (add_reply j r y)) i) ]) its
          ∙ sym (ap (λ (o : Option ℕ). elim o as (λ q. Option ℕ) [ None ↦ None | Some i ↦ option_and_then (λ (b : Replied). choose (not (is_join_done b.reply)) (b.at + 1)) (reply_to (seen y) i) ]) its)
      refused (Some i) its =
          refused_of (seen (add_reply j r y)) z i its ∙ (ap (λ o. option_and_then (λ (b : Replied). choose (not (is_join_done b.reply)) (b.at + 1)) o) (told i its) ∙ sym (refused_of (seen y) z i its))

-- A reply to a job that is no joining's.
pub reply_connections : (heard : Option ℕ) (y : Step) (j : ℕ) (r : Reply) → IsLate y r → IsOtherJob y j → ConnectionFacts y.setting (seen y) heard → ConnectionFacts y.setting (seen (add_reply j r y)) heard
reply_connections heard y j r after other h =
    same_connections y.setting (seen y) (seen (add_reply j r y)) heard
    (record { all = refl; each = λ z there. reply_same y j r z after (other z there); named = λ n. refl; renewed = λ z. refl; registered = λ n. refl; opens = λ m is. is }) h

-- ---- what is altered, effect by effect

pub alters_nothing : (st : Setting) (t : Trace) (heard : Option ℕ) (s : Session) → Alters st t t heard s
alters_nothing st t heard s =
    record {
      all = refl;
      other = λ z there away. same_itself t z;
      less = λ z there is. is;
      unjoined = λ z none. none;
      named = λ n away. refl;
      renewed = λ z. refl;
      registered = λ n away. refl;
      writes = λ z m there inside writes opens. inl (inside, opens);
    }

pub alters_reply : (t : Trace) (heard : Option ℕ) (s : Session) (y : Step) (j : ℕ) (r : Reply) → IsLate y r → ((z : Session) → Contains (sessions y.setting t) z → bytes_eq z.lockspace s.lockspace ≡ false → z.job ≡ Some j → ⊥)
    → Alters y.setting t (seen y) heard s → Alters y.setting t (seen (add_reply j r y)) heard s
alters_reply t heard s y j r after other a =
    record {
      all = a.all;
      other = λ z there away. same_then t (seen y) (seen (add_reply j r y)) z (a.other z there away) (reply_same y j r z after (other z there away));
      less = λ z there is. a.less z there (reply_present y j r z (calls_stay y j r after) is);
      unjoined = λ z none. a.unjoined z (before z none (joined_after (seen y) z) refl);
      named = a.named;
      renewed = a.renewed;
      registered = a.registered;
      writes = λ z m there inside writes opens. a.writes z m there (subst (λ ms. Contains (filter (is_call_of z) ms) m) (calls_stay y j r after) inside) writes opens;
    } where
      before : (z : Session) → joined_after (seen (add_reply j r y)) z ≡ None → (o : Option ℕ) → joined_after (seen y) z ≡ o → joined_after (seen y) z ≡ None
      before z none None is = is
      before z none (Some k) is = absurd (none_some k (sym none ∙ reply_joins_more y j r z k is))

-- A move of the session's own name.
pub record MovesOwn (name : List ℕ) (m : Move) : Type 0 where
  pub named : (cs : List Connection) (n : List ℕ) → bytes_eq n name ≡ false → connection_named (after_move cs m) n ≡ connection_named cs n
  pub removes : (n : List ℕ) → bytes_eq n name ≡ false → unregisters n m ≡ false
  pub registers : (n : List ℕ) → bytes_eq n name ≡ false → registers n m ≡ false

turned : (a b : List ℕ) → bytes_eq a b ≡ false → bytes_eq b a ≡ false
turned a b other =
    is_false (bytes_eq b a) (λ same. not_both (bytes_eq a b) (ap (λ c. bytes_eq a c) ((bytes_eq-Decides b a).0 same) ∙ same_name a) other)

pub registers_own : (name : List ℕ) (expiry : ℕ) → MovesOwn name (Register name expiry)
registers_own name expiry = record { named = λ cs n other. register_other cs name expiry n (turned n name other); removes = λ n other. refl; registers = λ n other. turned n name other }

pub renews_own : (name : List ℕ) (expiry : ℕ) → MovesOwn name (Renew name expiry)
renews_own name expiry = record { named = λ cs n other. renew_other cs name expiry n other; removes = λ n other. refl; registers = λ n other. refl }

pub removes_own : (name : List ℕ) → MovesOwn name (Unregister name)
removes_own name = record { named = λ cs n other. remove_other cs name n other; removes = λ n other. turned n name other; registers = λ n other. refl }

pub move_same : (y : Step) (m : Move) (z : Session) → unregisters z.lockspace m ≡ false → SameSession (seen y) (seen (add_move m y)) z
move_same y m z spares =
    record {
      joined = refl;
      removed = ap (λ b. elim (removed_after y.past z) as (λ o. Option ℕ) [ Some k ↦ Some k | None ↦ choose (is_some (joined_after y.past z) && b) (length y.past + 1) ]) (any_more (unregisters z.lockspace) y.effects.moves m spares);
      refused = refl;
      calls = refl;
    }

pub move_named : (y : Step) (m : Move) (n : List ℕ) → connected y.setting (seen (add_move m y)) n ≡ connection_named (after_move (connections y.setting (seen y)) m) n
move_named y m n = ap (λ cs. connection_named cs n) (effects_are_told.moves y.setting m (entry_of y) y.past)

pub alters_move : (t : Trace) (heard : Option ℕ) (s : Session) (y : Step) (m : Move) → MovesOwn s.lockspace m → Alters y.setting t (seen y) heard s → Alters y.setting t (seen (add_move m y)) heard s
alters_move t heard s y m own a =
    record {
      all = a.all;
      other = λ z there away. same_then t (seen y) (seen (add_move m y)) z (a.other z there away) (move_same y m z (own.removes z.lockspace away));
      less = λ z there is. a.less z there (move_present y m z is);
      unjoined = a.unjoined;
      named = λ n away. move_named y m n ∙ (own.named (connections y.setting (seen y)) n away ∙ a.named n away);
      renewed = a.renewed;
      registered = λ n away. ap (λ b. elim b as (λ z. ℕ) [ true ↦ y.reading | false ↦ last_registering y.past n ]) (any_more (registers n) y.effects.moves m (own.registers n away)) ∙ a.registered n away;
      writes = a.writes;
    }

-- A call of the session, which was not refused.
pub alters_call : (t : Trace) (heard : Option ℕ) (s : Session) (y : Step) (path : List ℕ) (p : Purpose) (o : ℕ) (op : Op) → Has y s → is_join_call FirstRead p ≡ false → refused_after (seen y) s ≡ None → Alters y.setting t (seen y) heard s
    → Alters y.setting t (seen (add_call_of s.number path p o op y)) heard s
alters_call t heard s y path p o op has no_look unrefused a =
    record {
      all = same_sessions y.setting (entry_of y) y.past made no_look ∙ a.all;
      other = λ z there away. same_then t (seen y) (seen (add_call_of s.number path p o op y)) z (a.other z there away) (elsewhere z there away);
      less = λ z there is. a.less z there (call_present y s path p o op z (λ same. ap (λ q. refused_after (seen y) q) (one_of z there same) ∙ unrefused) is);
      unjoined = a.unjoined;
      named = a.named;
      renewed = a.renewed;
      registered = a.registered;
      writes = λ z m there inside writing opens. writes_before z m there inside writing opens (s.number == z.number) refl;
    } where
      made : Call
      made = record { number = next_call y.setting (seen y); session = s.number; purpose = p; path = path; offset = o; op = op }

      new : Submitted
      new = new_call (length y.past) y.reading made

      now : (z : Session) → Contains (sessions y.setting t) z → Contains (sessions y.setting (seen y)) z
      now z there = subst (λ ss. Contains ss z) (sym a.all) there

      one_of : (z : Session) → Contains (sessions y.setting t) z → z.number ≡ s.number → z ≡ s
      one_of z there same = one_number y.setting (seen y) s.number s z has (now z there) (ap (λ n. s.number == n) same ∙ number_itself s.number)

      elsewhere : (z : Session) → Contains (sessions y.setting t) z → bytes_eq z.lockspace s.lockspace ≡ false → SameSession (seen y) (seen (add_call_of s.number path p o op y)) z
      elsewhere z there away =
          record {
            joined = refl;
            removed = refl;
            refused = refl;
            calls = others_stay (entry_of y) y.past made z
                (is_false (s.number == z.number) (λ same. not_both (bytes_eq z.lockspace s.lockspace) (ap (λ (q : Session). bytes_eq q.lockspace s.lockspace) (one_number y.setting (seen y) s.number s z has (now z there) same) ∙ same_name s.lockspace) away));
          }

      opens_before : (m : Submitted) → IsOpen (seen (add_call_of s.number path p o op y)) heard m → IsOpen (seen y) heard m
      opens_before m (inl none) = inl none
      opens_before m (inr both) = absurd (never y.effects.calls made both.1) where
        never : (cs : List Call) (c : Call) → cs ++ c ∷ [] ≡ [] → ⊥
        never [] c is = contains_none c (subst (λ ds. Contains ds c) is (contains_first c []))
        never (d ∷ cs) c is = contains_none d (subst (λ ds. Contains ds d) is (contains_first d (cs ++ c ∷ [])))

      writes_before : (z : Session) (m : Submitted) → Contains (sessions y.setting t) z → Contains (calls_of (seen (add_call_of s.number path p o op y)) z) m → is_write m.call.op ≡ true → IsOpen (seen (add_call_of s.number path p o op y)) heard m
          → (b : Bool) → (s.number == z.number) ≡ b → (Contains (calls_of t z) m × IsOpen t heard m) ⊎ (z ≡ s)
      writes_before z m there inside writing opens true mine = inr (one_number y.setting (seen y) s.number s z has (now z there) mine)
      writes_before z m there inside writing opens false away = a.writes z m there (subst (λ ms. Contains ms m) (others_stay (entry_of y) y.past made z away) inside) writing (opens_before m opens)

-- ---- a connection that is removed

pub removed_away : (y : Step) (name : List ℕ) → connected y.setting (seen (add_move (Unregister name) y)) name ≡ None
removed_away y name = move_named y (Unregister name) name ∙ remove_named (connections y.setting (seen y)) name

-- Whatever is altered, once the connection is removed, where it stands, and the session is covered no more.
pub removal_connections : (t : Trace) (s : Session) (y : Step) → Contains (sessions y.setting t) s → Alters y.setting t (seen y) (heard_by y.input) s → IsAlone y.setting t s → is_covered (seen (add_move (Unregister s.lockspace) y)) s ≡ false
    → is_covered (seen y) s ≡ false ⊎ (is_registered y.setting (seen y) s.lockspace ≡ true)
    → ConnectionFacts y.setting t (heard_by y.input) → HasConnectionFacts (remove_connection s.lockspace y)
removal_connections t s y mine a alone gone uncovered h = by (is_registered y.setting (seen y) s.lockspace) refl where
  by : (b : Bool) → is_registered y.setting (seen y) s.lockspace ≡ b → HasConnectionFacts (when b (add_move (Unregister s.lockspace)) y)
  by true is =
      altered_away y.setting t (seen (add_move (Unregister s.lockspace) y)) (heard_by y.input) s mine (alters_move t (heard_by y.input) s y (Unregister s.lockspace) (removes_own s.lockspace) a) alone (removed_away y s.lockspace) gone h
  by false is =
      altered_away y.setting t (seen y) (heard_by y.input) s mine a alone (not_some (connected y.setting (seen y) s.lockspace) is) (either uncovered) h where
        either : is_covered (seen y) s ≡ false ⊎ (is_registered y.setting (seen y) s.lockspace ≡ true) → is_covered (seen y) s ≡ false
        either (inl none) = none
        either (inr there) = absurd (not_both (is_registered y.setting (seen y) s.lockspace) there is)
