-- How actions end, and what is put out of what they print.
use Rattle.sl_direct.proofs.DiskLaws.{AllApart, all_written, front_written}
use Rattle.sl_direct.proofs.LookLaws.{one_line}
use Rattle.sl_direct.specs.Actions.{Acts, Directs, IsFront, PutsOut, Writes, last_lines, output_of}
use Rattle.sl_direct.specs.FreshAreas.{Write}
use Rattle.sl_direct.specs.HalfDone.{BrokeOff, HasActed, Wrote}
use Rattle.sl_direct.specs.declared.action.Action.TheVariants.{Dump, InitLabelled, InitLockspace, InitResource, ReadLeader, Upgrade}
use Rattle.sl_direct.specs.declared.action.Action.{Action}
use Rattle.sl_direct.specs.declared.action.Directed.TheVariants.{AreaFault, Done, WriteFault}
use Rattle.sl_direct.specs.declared.action.Directed.{Directed}
use Rattle.sl_text.specs.Forms.{as_bytes}
use Rattle.sl_io.specs.FaultCauses.{Rose}
use Rattle.std.proofs.Common.{List, Option, [], ap, append_assoc, arith, inl, inr, refl, subst, sym, take, take-append-drop, drop, ℕ, ◌++◌, ◌∙◌, ◌∷◌, ◌≡◌, ◌≤◌, ◌⊎◌}
use Rattle.std.proofs.KnownBytes.{Appends-trans}
use Rattle.std.specs.Io.KnownBytes.{Appends}

-- ---- writes

-- All were made.
pub writes_done : (ws : List Write) (line : List ℕ) (a b : Option (List ℕ)) (old out : List ℕ) → AllApart ws → Wrote ws a b → old ≡ [] → out ≡ old ++ line ++ 10 ∷ []
    → (lines : List (List ℕ)) × (out ≡ as_bytes lines) × Writes ws line a b lines Done
writes_done ws line a b old out apart wrote none told = (line ∷ [], one_line old out line none told, (all_written ws a b apart wrote, refl))

-- One failed.
pub writes_broke : (ws : List Write) (line : List ℕ) (a b : Option (List ℕ)) (out : List ℕ) → AllApart ws → BrokeOff ws a b → out ≡ []
    → (lines : List (List ℕ)) × (out ≡ as_bytes lines) × Writes ws line a b lines AreaFault
writes_broke ws line a b out apart broke none = ([], none, (front_written ws a b apart broke, refl))

-- ---- what is put out

-- A front of a front.
front_of_front : (n : ℕ) (text output : List ℕ) → IsFront text output → IsFront (take n text) output
front_of_front n text output f =
    (drop n text ++ f.0, f.1 ∙ ap (λ xs. xs ++ f.0) (sym (take-append-drop n text)) ∙ append_assoc (take n text) (drop n text) f.0)

-- The sink failed in a text with which the output begins.
pub put_broke : (taken now : Option (List ℕ)) (faults later n : ℕ) (text output : List ℕ) (went : Directed) → Appends taken now (take n text) → IsFront text output
    → Rose faults later → faults ≤ later → PutsOut taken now faults later output went WriteFault
put_broke taken now faults later n text output went puts front rose falls =
    record { put = take n text; puts = puts; is_put = inr (front_of_front n text output front, refl, rose); never_falls = falls }

rose_before : (a b c : ℕ) → a ≤ b → Rose b c → Rose a c
rose_before a b c le rose = omega (arith, le, rose)

up_to : (a b c : ℕ) → a ≤ b → b ≤ c → a ≤ c
up_to a b c h k = omega (arith, h, k)

behind : (text output put : List ℕ) (went d : Directed) (a b c : ℕ) → a ≤ b
    → (((put ≡ output) × (d ≡ went)) ⊎ (IsFront put output × (d ≡ WriteFault) × Rose b c))
    → ((((text ++ put) ≡ text ++ output) × (d ≡ went)) ⊎ (IsFront (text ++ put) (text ++ output) × (d ≡ WriteFault) × Rose a c))
behind text output put went d a b c le (inl whole) = inl (ap (λ xs. text ++ xs) whole.0, whole.1)
behind text output put went d a b c le (inr cut) =
    inr ((cut.0.0, ap (λ xs. text ++ xs) cut.0.1 ∙ sym (append_assoc text put cut.0.0)), cut.1, rose_before a b c le cut.2)

-- An output behind a text that the sink took.
pub put_behind : (taken mid now : Option (List ℕ)) (a b c : ℕ) (text output : List ℕ) (went d : Directed) → Appends taken mid text → a ≤ b → PutsOut mid now b c output went d
    → PutsOut taken now a c (text ++ output) went d
put_behind taken mid now a b c text output went d first le last =
    record {
      put = text ++ last.put;
      puts = Appends-trans taken mid now text last.put first last.puts;
      is_put = behind text output last.put went d a b c le last.is_put;
      never_falls = up_to a b c le last.never_falls;
    }

-- ---- the whole run

as_bytes-append : (xs ys : List (List ℕ)) → as_bytes (xs ++ ys) ≡ as_bytes xs ++ as_bytes ys
as_bytes-append [] ys = refl
as_bytes-append (x ∷ xs) ys = ap (λ l. (x ++ 10 ∷ []) ++ l) (as_bytes-append xs ys) ∙ sym (append_assoc (x ++ 10 ∷ []) (as_bytes xs) (as_bytes ys))

-- The action that it was.
pub acted_as : (a b : Action) (content after : Option (List ℕ)) (out : List ℕ) (d : Directed) → a ≡ b → HasActed b content after out d → HasActed a content after out d
acted_as a b content after out d is acted = subst (λ (x : Action). HasActed x content after out d) (sym is) acted

-- No action ends by the sink.
no_write_fault : (a : Action) (content after : Option (List ℕ)) (lines : List (List ℕ)) → Acts a content after lines WriteFault → ⊥
no_write_fault (InitLockspace l g) content after lines acts = acts
no_write_fault (InitLabelled l g t grace) content after lines acts = acts
no_write_fault (InitResource r g) content after lines acts = acts
no_write_fault (ReadLeader r g) content after lines acts = acts.ended
no_write_fault (Upgrade r g) content after lines acts = acts
no_write_fault (Dump path offset size g) content after lines acts = acts.ended

fault_counted : (a : Action) (content after : Option (List ℕ)) (lines : List (List ℕ)) (put output : List ℕ) (went d : Directed) (faults later : ℕ) → Acts a content after lines went
    → (((put ≡ output) × (d ≡ went)) ⊎ (IsFront put output × (d ≡ WriteFault) × Rose faults later)) → d ≡ WriteFault → Rose faults later
fault_counted a content after lines put output went d faults later acts (inl whole) is =
    absurd (no_write_fault a content after lines (subst (Acts a content after lines) (sym whole.1 ∙ is) acts))
fault_counted a content after lines put output went d faults later acts (inr cut) is = cut.2

-- A fault of the area that is told is the action's.
area_counted : (put output : List ℕ) (went d : Directed) (faults later sink_faults sink_later : ℕ) → (went ≡ AreaFault → Rose faults later)
    → (((put ≡ output) × (d ≡ went)) ⊎ (IsFront put output × (d ≡ WriteFault) × Rose sink_faults sink_later)) → d ≡ AreaFault → Rose faults later
area_counted put output went d faults later sink_faults sink_later cause (inl whole) is = cause (sym whole.1 ∙ is)
area_counted put output went d faults later sink_faults sink_later cause (inr cut) is = absurd (two_faults (sym cut.1 ∙ is))
  where
    two_faults : WriteFault ≡ AreaFault → ⊥
    two_faults e = cc

-- What was acted was put out.
pub directs : (a : Action) (content after : Option (List ℕ)) (faults later : ℕ) (taken now : Option (List ℕ)) (sink_faults sink_later : ℕ) (out text : List ℕ) (went d : Directed)
    → HasActed a content after out went → text ≡ out → (went ≡ AreaFault → Rose faults later) → faults ≤ later
    → PutsOut taken now sink_faults sink_later (text ++ as_bytes (last_lines went)) went d
    → Directs a content after faults later taken now sink_faults sink_later d
directs a content after faults later taken now sink_faults sink_later out text went d acted same cause falls puts =
    let lines : List (List ℕ) = acted.0 in
    let output : text ++ as_bytes (last_lines went) ≡ output_of lines went =
    ap (λ xs. xs ++ as_bytes (last_lines went)) (same ∙ acted.1) ∙ sym (as_bytes-append lines (last_lines went)) in
    let whole : PutsOut taken now sink_faults sink_later (output_of lines went) went d =
    subst (λ (o : List ℕ). PutsOut taken now sink_faults sink_later o went d) output puts in
    record {
      went = went;
      lines = lines;
      acts = acted.2;
      output = whole;
      area_fault = area_counted whole.put (output_of lines went) went d faults later sink_faults sink_later cause whole.is_put;
      write_fault = fault_counted a content after lines whole.put (output_of lines went) went d sink_faults sink_later acted.2 whole.is_put;
      area_failed = cause;
      never_falls = falls;
    }
