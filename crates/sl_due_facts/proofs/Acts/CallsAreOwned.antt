-- Each call that is due is of a session that the trace has.
use Rattle.sl_due_facts.proofs.Acts.AddedAtEnd.{any_last, begun_by, contains_last}
use Rattle.sl_due_facts.proofs.Acts.DecisionsAreTheirs.{decisions_are_theirs}
use Rattle.sl_due_facts.proofs.Acts.PlainActs.{plain_acts}
use Rattle.sl_due_facts.proofs.Acts.SessionsStay.{numbered_more}
use Rattle.sl_due_facts.proofs.Acts.StepsKeep.{Fixed, begun_bare, fixed_first}
use Rattle.sl_due_facts.proofs.Acts.TracesKeep.{traces_keep}
use Rattle.sl_due_facts.specs.Acts.Acts.{Has}
use Rattle.sl_due_facts.specs.Acts.KeptByEffects.{Plainly}
use Rattle.sl_due_facts.specs.Acts.DueDaemons.{IsDecidedFor}
use Rattle.sl_due_facts.specs.Acts.TraceSoFar.{entry_of}
use Rattle.sl_area.specs.AreaLayout.{delta_offset}
use Rattle.sl_due.specs.Due.{IsHostTrace}
use Rattle.sl_due.specs.DueCommands.{carry_decision}
use Rattle.sl_due.specs.DueRecovery.{begin_recoveries}
use Rattle.sl_due.specs.Steps.{Step, add_call_of, begin_step, seen, with_input}
use Rattle.sl_due.specs.declared.decision.Decision.TheVariants.{Joins}
use Rattle.sl_words.proofs.Lists.{contains_cases, contains_none}
use Rattle.sl_words.proofs.Options.{some_of}
use Rattle.sl_words.proofs.Places.{last_there}
use Rattle.sl_trace.specs.Sessions.{added, is_join_call, joining_session, session_numbered, sessions}
use Rattle.sl_trace.specs.declared.session.Session.{Session}
use Rattle.sl_trace.specs.TraceLaws.{with_call}
use Rattle.sl_trace.specs.Traces.{EachEntry, FollowsTrace, Setting, Trace, next_call, next_job}
use Rattle.sl_trace.specs.declared.command.Command.TheVariants.{AddLockspace}
use Rattle.sl_trace.specs.declared.command.Command.{Command}
use Rattle.sl_trace.specs.declared.command.LockspaceArg.{LockspaceArg}
use Rattle.sl_trace.specs.declared.effects.Call.{Call}
use Rattle.sl_trace.specs.declared.effects.Entry.{Entry}
use Rattle.sl_trace.specs.declared.effects.JoinStep.TheVariants.{FirstRead}
use Rattle.sl_trace.specs.declared.effects.Op.TheVariants.{ReadSectors}
use Rattle.sl_trace.specs.declared.effects.Op.{Op}
use Rattle.sl_trace.specs.declared.effects.Purpose.TheVariants.{Joining}
use Rattle.sl_trace.specs.declared.effects.Purpose.{Purpose}
use Rattle.sl_trace.specs.declared.input.Input.TheVariants.{Line}
use Rattle.std.proofs.Common.{ap, append-nil, inl, inr, refl, subst, sym, ◌∙◌}
use Rattle.std.specs.List.{list_any}
use Rattle.std.specs.Prelude.{Contains, IsSome, List, None, Ok, Result, Some, false, length, slice_get, true, [], ℕ, ◌++◌, ◌∷◌, ◌≡◌, ◌⊎◌}

-- ---- each call of a session

abbrev IsOwned : Setting → Trace → Entry → Type 0
IsOwned st past e = (c : Call) → Contains e.effects.calls c → IsSome (session_numbered st (e ∷ past) c.session)

abbrev AllOwned : Setting → Trace → Type 0
AllOwned st es = EachEntry (IsOwned st) es

abbrev OwnedSoFar : Step → Type 0
OwnedSoFar x = AllOwned x.setting (seen x)

one_more : (x : Step) (s : Session) (path : List ℕ) (p : Purpose) (o : ℕ) (op : Op) → Has x s → OwnedSoFar x → OwnedSoFar (add_call_of s.number path p o op x)
one_more x s path p o op has h = ((λ c there. by c (contains_last x.effects.calls made c there)), h.1) where
  made : Call
  made = record { number = next_call x.setting (seen x); session = s.number; purpose = p; path = path; offset = o; op = op }

  by : (c : Call) → Contains x.effects.calls c ⊎ (made ≡ c) → IsSome (session_numbered x.setting (seen (add_call_of s.number path p o op x)) c.session)
  by c (inl old) =
      let is = some_of (session_numbered x.setting (seen x) c.session) (h.0 c old) in
      subst (λ o. IsSome o) (sym (numbered_more x.setting x.past (entry_of x) made c.session is.0 is.1)) refl
  by c (inr new) =
      subst (λ (z : Call). IsSome (session_numbered x.setting (seen (add_call_of s.number path p o op x)) z.session)) new
      (subst (λ o. IsSome o) (sym (numbered_more x.setting x.past (entry_of x) made s.number s has)) refl)

at_last : {A : Type 0} (xs : List A) (y : A) (n : ℕ) → n ≡ length xs → slice_get (xs ++ y ∷ []) n ≡ Some y
at_last xs y n is = ap (λ k. slice_get (xs ++ y ∷ []) k) is ∙ last_there xs y

begun_there : (x : Step) (text : List ℕ) (n : ℕ) (a : LockspaceArg) (made : Call) → x.effects.calls ≡ [] → x.setting.read text ≡ Ok (AddLockspace a) → n ≡ length (sessions x.setting (seen x))
    → is_join_call FirstRead made.purpose ≡ true → IsSome (session_numbered x.setting (with_call made (entry_of (with_input (Line text) x)) ∷ x.past) n)
begun_there x text n a made bare reads next look =
    let st : Setting = x.setting in
    let ss : List Session = sessions st x.past in
    let e : Entry = entry_of (with_input (Line text) x) in
    let none : list_any (λ (c : Call). is_join_call FirstRead c.purpose) x.effects.calls ≡ false = ap (λ cs. list_any (λ (c : Call). is_join_call FirstRead c.purpose) cs) bare in
    let at : n ≡ length ss = next ∙ (ap (λ b. length (ss ++ begun_by st x.past (length ss) (entry_of x) b)) none ∙ ap (λ zs. length zs) (append-nil ss)) in
    let begun : begun_by st x.past (length ss) e true ≡ joining_session (length ss) (next_job st x.past) a ∷ [] =
    ap (λ (o : Result Command ℕ). elim (added o) as (λ z. List Session) [ None ↦ [] | Some b ↦ joining_session (length ss) (next_job st x.past) b ∷ [] ]) reads in
    let found : session_numbered st (with_call made e ∷ x.past) n ≡ Some (joining_session (length ss) (next_job st x.past) a) =
    ap (λ b. slice_get (ss ++ begun_by st x.past (length ss) e b) n) (any_last (λ (c : Call). is_join_call FirstRead c.purpose) x.effects.calls made look)
    ∙ (ap (λ zs. slice_get (ss ++ zs) n) begun ∙ at_last ss (joining_session (length ss) (next_job st x.past) a) n at)
    in
    subst (λ o. IsSome o) (sym found) refl

first_call : (x : Step) (text : List ℕ) (j n : ℕ) (a : LockspaceArg) → x.effects.calls ≡ [] → x.setting.read text ≡ Ok (AddLockspace a) → n ≡ length (sessions x.setting (seen x)) → OwnedSoFar x
    → OwnedSoFar (add_call_of n a.path (Joining j FirstRead) (delta_offset x.setting.layout a.offset a.id) (ReadSectors 1) (with_input (Line text) x))
first_call x text j n a bare reads next h = ((λ c there. by c (only c (subst (λ cs. Contains (cs ++ made ∷ []) c) bare there))), h.1) where
  made : Call
  made = record { number = next_call x.setting (seen (with_input (Line text) x)); session = n; purpose = Joining j FirstRead; path = a.path; offset = delta_offset x.setting.layout a.offset a.id; op = ReadSectors 1 }

  only : (c : Call) → Contains (made ∷ []) c → made ≡ c
  only c there = elim (contains_cases made [] c there) [ inl is ↦ is | inr none ↦ absurd (contains_none c none) ]

  by : (c : Call) → made ≡ c → IsSome (session_numbered x.setting (seen (add_call_of n a.path (Joining j FirstRead) (delta_offset x.setting.layout a.offset a.id) (ReadSectors 1) (with_input (Line text) x))) c.session)
  by c is =
      subst (λ (z : Call). IsSome (session_numbered x.setting (seen (add_call_of n a.path (Joining j FirstRead) (delta_offset x.setting.layout a.offset a.id) (ReadSectors 1) (with_input (Line text) x))) z.session)) is
      (begun_there x text n a made bare reads next refl)

owned_plainly : Plainly OwnedSoFar
unfolding carry_decision
owned_plainly =
    record {
      effects = record {
        ends = λ x e h. h;
        signals = λ x p s h. h;
        moves = λ x m h. h;
        grants = λ x g h. h;
        starts = λ x s h. h;
        replies = λ x j r h. h;
        calls = one_more;
      };
      inputs = λ x i wake bare h. ((λ c there. absurd (contains_none c (subst (λ cs. Contains cs c) bare there))), h.1);
      begins = λ x text c n a wake bare says is h.
          let well : IsDecidedFor x.setting (seen x) c (Joins n a) = subst (λ d. IsDecidedFor x.setting (seen x) c d) is (decisions_are_theirs x.setting (seen x) x.reading c) in
          first_call x text (next_job x.setting (seen x)) n a bare (says ∙ ap (λ z. Ok z) well.0) well.1 h;
    }

starts_owned : (st : Setting) (past : Trace) (e : Entry) → FollowsTrace st past e → AllOwned st past → OwnedSoFar (begin_recoveries (begin_step st past e.reading))
starts_owned st past e follows h =
    let d : Step = begin_recoveries (begin_step st past e.reading) in
    let f : Fixed st past e.reading d = fixed_first st past e.reading in (
      (λ c there. absurd (contains_none c (subst (λ cs. Contains cs c) (begun_bare st past e.reading).1.0 there))),
      subst (λ z. AllOwned z d.past) (sym f.setting) (subst (λ es. AllOwned st es) (sym f.before) h),
    )

-- Each call that is due is of a session.
pub hosts_own_their_calls : (st : Setting) (es : Trace) → IsHostTrace st es → AllOwned st es
hosts_own_their_calls st es h = traces_keep AllOwned OwnedSoFar (plain_acts OwnedSoFar owned_plainly) starts_owned (λ x k. k) st tt es h
