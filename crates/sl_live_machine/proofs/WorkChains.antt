-- A worker's calls on its disks, one after another, as more of the history is seen.
use Rattle.sl_book.proofs.Fronts.{prefix_get, prefix_length, prefix_self, prefix_trans}
use Rattle.sl_book.proofs.SeatLaws.{mine_none, mine_seen}
use Rattle.sl_book.specs.Logs.{entries}
use Rattle.sl_book.specs.Seats.{HasSeen}
use Rattle.sl_cell.proofs.SeatLaws.{calls_prefix, gave_before, mine_on}
use Rattle.sl_cell.specs.Histories.{Signed}
use Rattle.sl_cell.specs.Parts.{calls_of}
use Rattle.sl_cell.specs.Seats.{SeatState}
use Rattle.sl_cell.specs.Told.{Gave, IsUnasked, Took, TookAll}
use Rattle.sl_cell.specs.declared.part.Part.{Part}
use Rattle.sl_live.proofs.WorkLaws.{next_within, take_next, take_same}
use Rattle.sl_live.specs.ServedCalls.{MakesCall}
use Rattle.sl_live.specs.Turns.{AreServed, IsPassed, Works}
use Rattle.sl_live.specs.declared.disks.Disk.{Disk}
use Rattle.sl_live_machine.proofs.SeatLaws.{GaveTurn}
use Rattle.sl_live_machine.specs.ThreadTurns.{AreMade, IsPassedBy, WorksOn}
use Rattle.sl_trace.specs.Traces.{Setting}
use Rattle.sl_trace.specs.declared.effects.Call.{Call}
use Rattle.sl_trace.specs.declared.effects.Effects.{Effects}
use Rattle.sl_trace.specs.declared.effects.Entry.{Entry}
use Rattle.sl_trace.specs.declared.input.Answer.{Answer}
use Rattle.sl_trace.specs.declared.input.Input.TheVariants.{Answer as Told}
use Rattle.std.proofs.Common.{arith, inl, inr, refl, subst, sym, ◌∙◌}
use Rattle.std.specs.Prelude.{List, Option, Some, length, slice_get, take, [], ℕ, ◌++◌, ◌+◌, ◌∷◌, ◌≡◌, ◌≤◌, ◌⊎◌}
use mathlib.Core.List.{IsPrefix}

either : {A B C D : Type 0} → (A → C) → (B → D) → A ⊎ B → C ⊎ D
either f g (inl a) = inl (f a)
either f g (inr b) = inr (g b)

passed_more : (st : Setting) (h h' : List Signed) (c : Call) (a : Answer) → IsPrefix h h' → IsPassedBy st h c a → IsPassedBy st h' c a
passed_more st h h' c a p so = record { past = so.past; before = prefix_trans so.past h h' so.before p; unasked = so.unasked }

passed_of : (st : Setting) (h : List Signed) (c : Call) (a : Answer) → IsPassedBy st h c a → IsPassed st h c
passed_of st h c a so = record { answer = a; past = so.past; before = so.before; unasked = so.unasked }

module _ {A : Type 0} (content : A → Option (List ℕ)) (faults : A → ℕ) (sector : ℕ) (st : Setting) where
  -- more of the history was seen
  made_more : (h h' : List Signed) (cs : List Call) (es : List Entry) (disks later : List (Disk A)) → IsPrefix h h'
      → AreMade content faults sector st h cs es disks later → AreMade content faults sector st h' cs es disks later
  made_more h h' [] [] disks later p so = so
  made_more h h' [] (e ∷ es) disks later p so = absurd so
  made_more h h' (c ∷ cs) [] disks later p so = record {
    answer = so.answer;
    left = so.left;
    made = so.made;
    follows = (passed_more st h h' c so.answer p so.follows.0, made_more h h' cs [] so.left later p so.follows.1);
  }
  made_more h h' (c ∷ cs) (e ∷ es) disks later p so = record {
    answer = so.answer;
    left = so.left;
    made = so.made;
    follows = either (λ x. (x.0, made_more h h' cs es so.left later p x.1))
        (λ x. (passed_more st h h' c so.answer p x.0, made_more h h' cs (e ∷ es) so.left later p x.1)) so.follows;
  }

  -- the entries answer the calls
  served_of : (h : List Signed) (cs : List Call) (es : List Entry) (disks later : List (Disk A)) → AreMade content faults sector st h cs es disks later → AreServed st h cs es
  served_of h [] [] disks later so = tt
  served_of h [] (e ∷ es) disks later so = absurd so
  served_of h (c ∷ cs) [] disks later so = (passed_of st h c so.answer so.follows.0, served_of h cs [] so.left later so.follows.1)
  served_of h (c ∷ cs) (e ∷ es) disks later so =
      either (λ x. ((so.answer, x.0), served_of h cs es so.left later x.1)) (λ x. (passed_of st h c so.answer x.0, served_of h cs (e ∷ es) so.left later x.1)) so.follows

  -- one more call is made, and its answer given
  made_answer : (h : List Signed) (cs : List Call) (es : List Entry) (c : Call) (e : Entry) (a : Answer) (disks between later : List (Disk A)) → e.input ≡ Told c.number a
      → MakesCall content faults sector c between later a → AreMade content faults sector st h cs es disks between
      → AreMade content faults sector st h (cs ++ c ∷ []) (es ++ e ∷ []) disks later
  made_answer h [] [] c e a disks between later is makes so = record {
    answer = a;
    left = later;
    made = subst (λ d. MakesCall content faults sector c d later a) so makes;
    follows = inl (is, refl);
  }
  made_answer h [] (x ∷ es) c e a disks between later is makes so = absurd so
  made_answer h (b ∷ cs) [] c e a disks between later is makes so = record {
    answer = so.answer;
    left = so.left;
    made = so.made;
    follows = inr (so.follows.0, made_answer h cs [] c e a so.left between later is makes so.follows.1);
  }
  made_answer h (b ∷ cs) (x ∷ es) c e a disks between later is makes so = record {
    answer = so.answer;
    left = so.left;
    made = so.made;
    follows = either (λ y. (y.0, made_answer h cs es c e a so.left between later is makes y.1))
        (λ y. (y.0, made_answer h cs (x ∷ es) c e a so.left between later is makes y.1)) so.follows;
  }

  -- .. or its answer answers nothing that is open
  made_pass : (h : List Signed) (cs : List Call) (es : List Entry) (c : Call) (a : Answer) (disks between later : List (Disk A)) → IsPassedBy st h c a
      → MakesCall content faults sector c between later a → AreMade content faults sector st h cs es disks between
      → AreMade content faults sector st h (cs ++ c ∷ []) es disks later
  made_pass h [] [] c a disks between later is makes so = record {
    answer = a;
    left = later;
    made = subst (λ d. MakesCall content faults sector c d later a) so makes;
    follows = (is, refl);
  }
  made_pass h [] (x ∷ es) c a disks between later is makes so = absurd so
  made_pass h (b ∷ cs) [] c a disks between later is makes so = record {
    answer = so.answer;
    left = so.left;
    made = so.made;
    follows = (so.follows.0, made_pass h cs [] c a so.left between later is makes so.follows.1);
  }
  made_pass h (b ∷ cs) (x ∷ es) c a disks between later is makes so = record {
    answer = so.answer;
    left = so.left;
    made = so.made;
    follows = either (λ y. (y.0, made_pass h cs es c a so.left between later is makes y.1))
        (λ y. (y.0, made_pass h cs (x ∷ es) c a so.left between later is makes y.1)) so.follows;
  }

  -- ---- a worker

  -- what it gave is as it should be
  pub works_of : (part : Part) (disks later : List (Disk A)) (s : SeatState) → WorksOn content faults sector st part disks later s → Works st part s
  works_of part disks later s w = record {
    made = w.given;
    mine = w.mine;
    most = w.most;
    serves = served_of s.front (take s.taken (calls_of part (entries s.front))) w.given disks later w.made;
  }

  -- nothing yet
  pub works_none : (part : Part) (disks : List (Disk A)) (s : SeatState) → s.count ≡ 0 → s.taken ≡ 0 → WorksOn content faults sector st part disks disks s
  works_none part disks s none first = record {
    given = [];
    mine = mine_none s none;
    most = omega (arith, first);
    made = subst (λ n. AreMade content faults sector st s.front (take n (calls_of part (entries s.front))) [] disks disks) (sym first) refl;
  }

  pub made_seen : (part : Part) (h h' : List Signed) (taken : ℕ) (given : List Entry) (disks later : List (Disk A)) → IsPrefix h h' → taken ≤ length (calls_of part (entries h))
      → AreMade content faults sector st h (take taken (calls_of part (entries h))) given disks later
      → AreMade content faults sector st h' (take taken (calls_of part (entries h'))) given disks later
  made_seen part h h' taken given disks later p most so =
      let cs = calls_prefix part h h' p in
      subst (λ l. AreMade content faults sector st h' l given disks later) (sym (take_same taken (calls_of part (entries h)) (calls_of part (entries h')) most cs))
      (made_more h h' (take taken (calls_of part (entries h))) given disks later p so)

  pub most_seen : (part : Part) (h h' : List Signed) (taken : ℕ) → IsPrefix h h' → taken ≤ length (calls_of part (entries h)) → taken ≤ length (calls_of part (entries h'))
  most_seen part h h' taken p most =
      let n = prefix_length (calls_of part (entries h)) (calls_of part (entries h')) (calls_prefix part h h' p) in omega (arith, n, most)

  works_seen : (part : Part) (disks later : List (Disk A)) (s s' : SeatState) → HasSeen s s' → s'.taken ≡ s.taken → WorksOn content faults sector st part disks later s
      → WorksOn content faults sector st part disks later s'
  works_seen part disks later s s' seen same w = record {
    given = w.given;
    mine = mine_seen s s' w.given seen w.mine;
    most = subst (λ n. n ≤ length (calls_of part (entries s'.front))) (sym same) (most_seen part s.front s'.front s.taken seen.before w.most);
    made = subst (λ n. AreMade content faults sector st s'.front (take n (calls_of part (entries s'.front))) w.given disks later) (sym same)
        (made_seen part s.front s'.front s.taken w.given disks later seen.before w.most w.made);
  }

  -- no call was left
  pub works_idle : (part : Part) (disks later : List (Disk A)) (s s' : SeatState) → TookAll part s s' → WorksOn content faults sector st part disks later s
      → WorksOn content faults sector st part disks later s'
  works_idle part disks later s s' all w = works_seen part disks later s s' all.seen all.taken w

  -- a call was taken: what was made before it, and the call
  record HasTaken (part : Part) (disks later : List (Disk A)) (s : SeatState) (c : Call) (before : ℕ) (given : List Entry) : Type 0 where
    there : slice_get (calls_of part (entries s.front)) before ≡ Some c
    next : s.taken ≡ before + 1
    made : AreMade content faults sector st s.front (take before (calls_of part (entries s.front))) given disks later

  took_one : (part : Part) (disks later : List (Disk A)) (s m : SeatState) (c : Call) → Took part s m c → (w : WorksOn content faults sector st part disks later s)
      → HasTaken part disks later m c s.taken w.given
  took_one part disks later s m c took w = record {
    there = took.call;
    next = took.taken;
    made = made_seen part s.front m.front s.taken w.given disks later took.seen.before w.most w.made;
  }

  -- .. and as much more was seen
  taken_seen : (part : Part) (disks later : List (Disk A)) (m s' : SeatState) (c : Call) (n : ℕ) (given : List Entry) → IsPrefix m.front s'.front → s'.taken ≡ m.taken
      → HasTaken part disks later m c n given → HasTaken part disks later s' c n given
  taken_seen part disks later m s' c n given p same t =
      let within = next_within n c (calls_of part (entries m.front)) t.there in record {
        there = prefix_get (calls_of part (entries m.front)) (calls_of part (entries s'.front)) n c (calls_prefix part m.front s'.front p) t.there;
        next = same ∙ t.next;
        made = made_seen part m.front s'.front n given disks later p (omega (arith, within)) t.made;
      }

  taken_most : (part : Part) (disks later : List (Disk A)) (s : SeatState) (c : Call) (n : ℕ) (given : List Entry) → HasTaken part disks later s c n given
      → s.taken ≤ length (calls_of part (entries s.front))
  taken_most part disks later s c n given t = let within = next_within n c (calls_of part (entries s.front)) t.there in let next = t.next in omega (arith, within, next)

  -- all that was taken, where these are made with the call
  made_all : (part : Part) (disks between later : List (Disk A)) (s : SeatState) (c : Call) (n : ℕ) (given all : List Entry) → HasTaken part disks between s c n given
      → AreMade content faults sector st s.front (take n (calls_of part (entries s.front)) ++ c ∷ []) all disks later
      → AreMade content faults sector st s.front (take s.taken (calls_of part (entries s.front))) all disks later
  made_all part disks between later s c n given all t so =
      subst (λ k. AreMade content faults sector st s.front (take k (calls_of part (entries s.front))) all disks later) (sym t.next)
      (subst (λ l. AreMade content faults sector st s.front l all disks later) (sym (take_next n c (calls_of part (entries s.front)) t.there)) so)

  answers_on : (part : Part) (disks between later : List (Disk A)) (s m s' : SeatState) (c : Call) (a : Answer) (now : ℕ) (fx : Effects) → Took part s m c
      → MakesCall content faults sector c between later a → Gave m s' now (Told c.number a) fx → WorksOn content faults sector st part disks between s
      → WorksOn content faults sector st part disks later s'
  answers_on part disks between later s m s' c a now fx took makes gave w =
      let e : Entry = gave.entry.entry in
      let t : HasTaken part disks between s' c s.taken w.given
      = taken_seen part disks between m s' c s.taken w.given (gave_before m s' now (Told c.number a) fx gave) gave.taken (took_one part disks between s m c took w) in
      record {
        given = w.given ++ e ∷ [];
        mine = mine_on m s' now (Told c.number a) fx w.given gave (mine_seen s m w.given took.seen w.mine);
        most = taken_most part disks between s' c s.taken w.given t;
        made = made_all part disks between later s' c s.taken w.given (w.given ++ e ∷ []) t
            (made_answer s'.front (take s.taken (calls_of part (entries s'.front))) w.given c e a disks between later gave.is.same makes t.made);
      }

  passes_on : (part : Part) (disks between later : List (Disk A)) (s m s' : SeatState) (c : Call) (a : Answer) → Took part s m c
      → MakesCall content faults sector c between later a → IsUnasked st m s' (Told c.number a) → WorksOn content faults sector st part disks between s
      → WorksOn content faults sector st part disks later s'
  passes_on part disks between later s m s' c a took makes passed w =
      let t : HasTaken part disks between s' c s.taken w.given
      = taken_seen part disks between m s' c s.taken w.given passed.seen.before passed.taken (took_one part disks between s m c took w) in
      let is : IsPassedBy st s'.front c a = record { past = s'.front; before = prefix_self s'.front; unasked = passed.unasked } in
      record {
        given = w.given;
        mine = mine_seen m s' w.given passed.seen (mine_seen s m w.given took.seen w.mine);
        most = taken_most part disks between s' c s.taken w.given t;
        made = made_all part disks between later s' c s.taken w.given w.given t
            (made_pass s'.front (take s.taken (calls_of part (entries s'.front))) w.given c a disks between later is makes t.made);
      }

  -- a call that is taken is made, and answered
  pub works_on : (part : Part) (disks between later : List (Disk A)) (s m s' : SeatState) (c : Call) (a : Answer) → Took part s m c
      → MakesCall content faults sector c between later a → GaveTurn st (Told c.number a) m s' → WorksOn content faults sector st part disks between s
      → WorksOn content faults sector st part disks later s'
  works_on part disks between later s m s' c a took makes (inl gave) w = answers_on part disks between later s m s' c a gave.0 gave.1 took makes gave.2 w
  works_on part disks between later s m s' c a took makes (inr passed) w = passes_on part disks between later s m s' c a took makes passed w
