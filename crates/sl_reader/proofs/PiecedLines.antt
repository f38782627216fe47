-- A line that is read piece by piece.
use Rattle.sl_report.specs.Schedules.{greatest_source, longest_line, numbered_from}
use Rattle.sl_reader.proofs.FirstLines.{free_both, last_first, line_first, refused_at}
use Rattle.sl_reader.specs.LineReads.{EndStands, EndsAlone, EndsLine, EndsWith, Gives, IsCutOff, IsFront, IsReading, Judges, ReaderState, Reads, ReadsEnd, ReadsLine, ReadsRefused, RefusesLine, TakesAll, TakesLine, TakesRefused, feed_of, line_of, with_feed}
use Rattle.sl_run.specs.declared.event.Refusal.{Refusal}
use Rattle.sl_reader.specs.declared.reader.Next.TheVariants.{End, Line, Refused}
use Rattle.sl_reader.specs.declared.reader.Next.{Next}
use Rattle.sl_text.specs.Forms.{is_free_of, lines_of}
use Rattle.std.proofs.Common.{Bool, List, Option, [], ap, arith, drop, false, length, length-append, length-take, min, refl, subst, sym, take, true, ℕ, ◌++◌, ◌+◌, ◌-◌, ◌<◌, ◌≡◌, ◌≤◌, ◌∙◌, ◌∷◌}
use Rattle.std.proofs.KnownBytes.{Consumes-kept, Consumes-nil, Consumes-trans}
use Rattle.std.proofs.lemmas.List.{append-nil, append_assoc, drop-drop, drop-take}
use Rattle.std.specs.Io.KnownBytes.{Consumes, Keeps}
use Rattle.std.proofs.lemmas.Bool.Decides.{nat_tests}
use Rattle.std.specs.Prelude.{Err, IsTrue, Ok, OnErr, Result, Some, nat_lt}

-- ---- one piece

-- What is left of a part of some bytes, its first ones passed.
pub passed : (at end count : ℕ) (bytes : List ℕ) → count ≤ length (take (end - at) (drop at bytes)) → at ≤ end
    → take (end - (at + count)) (drop (at + count) bytes) ≡ drop count (take (end - at) (drop at bytes))
passed at end count bytes few within =
    let inside : count ≤ end - at = omega (arith, few, length-take (end - at) (drop at bytes)) in
    let both : count + (end - (at + count)) ≡ end - at = omega (arith, inside, within) in
    ap (take (end - (at + count))) (sym (drop-drop count at bytes)) ∙ sym (drop-take count (end - (at + count)) (drop at bytes)) ∙ ap (λ n. drop count (take n (drop at bytes))) both

pub longer : (start : ℕ) (line front : List ℕ) (len : ℕ) → IsTrue (is_free_of 10 line) → IsTrue (is_free_of 10 front) → length line + length front ≤ longest_line
    → start + len ≤ greatest_source → length line + length front ≤ len → IsFront start (line ++ front)
longer start line front len free more short inside within =
    record {
      free = free_both line front free more;
      short = omega (arith, length-append line front);
      inside = omega (arith, length-append line front);
    }

-- All of a piece without a line feed is taken away.
pub none_left : (left front : List ℕ) → front ≡ left → left ≡ front ++ drop (length front) left → drop (length front) left ≡ []
none_left left front all cut = nothing left (drop (length front) left) (cut ∙ ap (λ f. f ++ drop (length front) left) all)
  where
    nothing : (xs ys : List ℕ) → xs ≡ xs ++ ys → ys ≡ []
    nothing xs [] is = refl
    nothing xs (y ∷ ys) is = absurd (omega (arith, ap length is, length-append xs (y ∷ ys)))

-- The line and what is left of the piece behind it.
pub line_ends : (line left front : List ℕ) → left ≡ front ++ 10 ∷ drop (length front + 1) left → line ++ left ≡ (line ++ front) ++ 10 ∷ drop (length front + 1) left
line_ends line left front cut = ap (λ l. line ++ l) cut ∙ sym (append_assoc line front (10 ∷ drop (length front + 1) left))

pub within : (ends : Bool) (left front : List ℕ) → left ≡ front ++ (feed_of ends ++ drop (with_feed ends (length front)) left) → with_feed ends (length front) ≤ length left
within true left front cut =
    let whole : left ≡ front ++ 10 ∷ drop (length front + 1) left = cut in omega (arith, ap length whole, length-append front (10 ∷ drop (length front + 1) left))
within false left front cut =
    let whole : left ≡ front ++ drop (length front) left = cut in omega (arith, ap length whole, length-append front (drop (length front) left))

pub refuses_at : (r : ReaderState) (front : List ℕ) (ends : Bool) (why : Refusal) → r.behind ≤ greatest_source → IsFront r.behind r.line → IsTrue (is_free_of 10 front)
    → r.left ≡ front ++ (feed_of ends ++ drop (with_feed ends (length front)) r.left) → (ends ≡ false → front ≡ r.left)
    → Judges r.behind (length r.line + length front) ends (Some why) → TakesRefused r r why
refuses_at r front ends why inside so_far more cut all judge =
    record { refuses = refused_at r.behind r.line r.left front ends why inside so_far.free more cut all judge; number = refl; ended = refl }

pub on_err : {T E : Type 0} (r : Result T E) (P : Type 0) → P → OnErr r P
on_err (Ok x) P p = tt
on_err (Err e) P p = p

-- ---- a line that is begun

pub begins : (left : Option (List ℕ)) (r n : ReaderState) → r.behind ≤ greatest_source → r.ended ≡ false → n ≡ record r { line = [] } → IsReading left left r n
begins left r n inside open_still is =
    subst (IsReading left left r) (sym is) (record {
      began = open_still;
      gives = record { more = []; consumes = Consumes-nil left; all_are = append-nil r.left };
      front = record { free = refl; short = omega arith; inside = omega arith };
      behind = refl;
      number = refl;
      open_still = open_still;
    })

-- The bytes that were given, told otherwise.
gives_so : (before now : Option (List ℕ)) (have all same : List ℕ) → Gives before now have all → all ≡ same → Gives before now have same
gives_so before now have all same g is = record { more = g.more; consumes = g.consumes; all_are = g.all_are ∙ is }

-- .. and more of them.
gives_more : (before now after : Option (List ℕ)) (have all more : List ℕ) → Gives before now have all → Consumes now after more → Gives before after have (all ++ more)
gives_more before now after have all more g c =
    record {
      more = g.more ++ more;
      consumes = Consumes-trans before now after g.more more g.consumes c;
      all_are = sym (append_assoc have g.more more) ∙ ap (λ b. b ++ more) g.all_are;
    }

pub gives_kept : (before now after : Option (List ℕ)) (have all : List ℕ) → Gives before now have all → Keeps now after → Gives before after have all
gives_kept before now after have all g k = record { more = g.more; consumes = Consumes-kept before now after g.more g.consumes k; all_are = g.all_are }

-- A piece was taken, and the next one is there.
pub goes_on : (before now after : Option (List ℕ)) (r n m o : ReaderState) → IsReading before now r n → TakesAll n m → o ≡ record m { left = o.left } → Consumes now after o.left
    → IsReading before after r o
goes_on before now after r n m o h t is c =
    let lines : o.line ≡ n.line ++ n.left = ap (λ (s : ReaderState). s.line) is ∙ t.line in
    record {
      began = h.began;
      gives = subst (λ l. Gives before after r.left (l ++ o.left)) (sym lines) (gives_more before now after r.left (n.line ++ n.left) o.left h.gives c);
      front = subst (λ l. IsFront r.behind l) (ap (λ (s : ReaderState). s.line) (sym is)) (subst (λ b. IsFront b m.line) h.behind t.front);
      behind = ap (λ (s : ReaderState). s.behind) is ∙ t.behind ∙ h.behind;
      number = ap (λ (s : ReaderState). s.number) is ∙ t.number ∙ h.number;
      open_still = ap (λ (s : ReaderState). s.ended) is ∙ t.ended ∙ h.open_still;
    }

-- What stands is a front of what follows at the next piece.
pub front_of : (before now : Option (List ℕ)) (r n : ReaderState) → IsReading before now r n → IsFront n.behind n.line
front_of before now r n h = subst (λ b. IsFront b n.line) (sym h.behind) h.front

-- ---- the line ends

-- The first of these lines, where it is the reader's.
first_is : (total start number : ℕ) (m : ReaderState) (ls : List (List ℕ)) → m.start ≡ start → m.number ≡ number
    → nat_lt greatest_source (min total (m.start + length m.line + 1)) ≡ false
    → numbered_from total start number (m.line ∷ ls) ≡ line_of m ∷ numbered_from total (m.start + length m.line + 1) (m.number + 1) ls
first_is total start number m ls starts numbers inside =
    ap (λ s. numbered_from total s number (m.line ∷ ls)) (sym starts) ∙ ap (λ n. numbered_from total m.start n (m.line ∷ ls)) (sym numbers)
    ∙ ap (λ p. record { number = m.number; start = m.start; text = m.line; is_past = p } ∷ numbered_from total (m.start + length m.line + 1) (m.number + 1) ls) inside

inside_then : (total end : ℕ) → end ≤ greatest_source → nat_lt greatest_source (min total end) ≡ false
inside_then total end h = grind (arith, nat_tests)

total_then : (total end : ℕ) → total ≤ greatest_source → nat_lt greatest_source (min total end) ≡ false
total_then total end h = grind (arith, nat_tests)

line_at : (r m : ReaderState) (rest : List ℕ) → IsTrue (is_free_of 10 m.line) → m.start ≡ r.behind → m.number ≡ r.number + 1 → m.behind ≡ r.behind + length m.line + 1
    → r.behind + length m.line + 1 ≤ greatest_source
    → numbered_from (r.behind + length ((m.line ++ 10 ∷ []) ++ rest)) r.behind (r.number + 1) (lines_of ((m.line ++ 10 ∷ []) ++ rest))
    ≡ line_of m ∷ numbered_from (r.behind + length ((m.line ++ 10 ∷ []) ++ rest)) m.behind (m.number + 1) (lines_of rest)
line_at r m rest free start number behind inside =
    let total : ℕ = r.behind + length ((m.line ++ 10 ∷ []) ++ rest) in
    let ends : m.start + length m.line + 1 ≤ greatest_source = subst (λ b. b + length m.line + 1 ≤ greatest_source) (sym start) inside in
    ap (λ ls. numbered_from total r.behind (r.number + 1) (lines_of ls)) (append_assoc m.line (10 ∷ []) rest)
    ∙ ap (numbered_from total r.behind (r.number + 1)) (line_first m.line rest free)
    ∙ first_is total r.behind (r.number + 1) m (lines_of rest) start number (inside_then total (m.start + length m.line + 1) ends)
    ∙ ap (λ b. line_of m ∷ numbered_from total b (m.number + 1) (lines_of rest)) (ap (λ b. b + length m.line + 1) start ∙ sym behind)

pub ends_so : (before now : Option (List ℕ)) (r n m : ReaderState) → IsReading before now r n → TakesLine n m → ReadsLine before now r m
ends_so before now r n m h t =
    let behind : m.behind ≡ r.behind + length m.line + 1 = t.behind ∙ ap (λ b. b + length m.line + 1) h.behind in
    let inside : m.behind ≤ greatest_source = t.inside in
    let ends : r.behind + length m.line + 1 ≤ greatest_source = subst (λ b. b ≤ greatest_source) behind inside in
    record {
      began = h.began;
      taken = m.line ++ 10 ∷ [];
      gives = gives_so before now r.left (n.line ++ n.left) ((m.line ++ 10 ∷ []) ++ m.left) h.gives (t.all_are ∙ sym (append_assoc m.line (10 ∷ []) m.left));
      first = λ rest follows. line_at r m rest t.front.free (t.start ∙ h.behind) (t.number ∙ ap (λ k. k + 1) h.number) behind ends;
      unrefused = (t.front.short, inside);
      behind = behind ∙ one_more r.behind m.line;
      some = some_byte m.line;
      feed = λ is. refl;
    }
  where
    one_more : (start : ℕ) (line : List ℕ) → start + length line + 1 ≡ start + length (line ++ 10 ∷ [])
    one_more start line = omega (arith, length-append line (10 ∷ []))

    some_byte : (line : List ℕ) → 0 < length (line ++ 10 ∷ [])
    some_byte line = omega (arith, length-append line (10 ∷ []))

pub refused_so : (before now : Option (List ℕ)) (r n m : ReaderState) (why : Refusal) → IsReading before now r n → TakesRefused n m why → ReadsRefused before now r m why
refused_so before now r n m why h t =
    record {
      began = h.began;
      bytes = n.line ++ n.left;
      gives = h.gives;
      refuses = subst (λ b. RefusesLine b (n.line ++ n.left) why) h.behind t.refuses;
      same = t.number ∙ h.number;
    }

-- ---- the source ends

last_line : (r e : ReaderState) → IsTrue (is_free_of 10 e.line) → 0 < length e.line → e.start ≡ r.behind → e.number ≡ r.number + 1 → r.behind + length e.line ≤ greatest_source
    → numbered_from (r.behind + length e.line) r.behind (r.number + 1) (lines_of e.line) ≡ line_of e ∷ []
last_line r e free some start number inside =
    let total : ℕ = r.behind + length e.line in
    ap (numbered_from total r.behind (r.number + 1)) (last_first e.line free some)
    ∙ first_is total r.behind (r.number + 1) e [] start number (total_then total (e.start + length e.line + 1) inside)

last_at : (r e : ReaderState) (rest : List ℕ) → rest ≡ [] → numbered_from (r.behind + length e.line) r.behind (r.number + 1) (lines_of e.line) ≡ line_of e ∷ []
    → numbered_from (r.behind + length (e.line ++ rest)) r.behind (r.number + 1) (lines_of (e.line ++ rest))
    ≡ line_of e ∷ numbered_from (r.behind + length (e.line ++ rest)) e.behind (e.number + 1) (lines_of rest)
last_at r e rest none is =
    subst (λ bytes. numbered_from (r.behind + length (e.line ++ bytes)) r.behind (r.number + 1) (lines_of (e.line ++ bytes))
    ≡ line_of e ∷ numbered_from (r.behind + length (e.line ++ bytes)) e.behind (e.number + 1) (lines_of bytes)) (sym none)
    (subst (λ bytes. numbered_from (r.behind + length bytes) r.behind (r.number + 1) (lines_of bytes) ≡ line_of e ∷ []) (sym (append-nil e.line)) is)

-- What the reader has when the source has ended.
record Ended (before after : Option (List ℕ)) (r o : ReaderState) : Type 0 where
  began : r.ended ≡ false
  gives : Gives before after r.left (o.line ++ o.left)
  front : IsFront r.behind o.line
  behind : o.behind ≡ r.behind
  number : o.number ≡ r.number

ended_at : (before now after : Option (List ℕ)) (r n m o : ReaderState) → IsReading before now r n → TakesAll n m → o ≡ record m { left = o.left } → Consumes now after o.left
    → Ended before after r o
ended_at before now after r n m o h t is c =
    let g = goes_on before now after r n m o h t is c in
    record { began = g.began; gives = g.gives; front = g.front; behind = g.behind; number = g.number }

last_of : (before after : Option (List ℕ)) (r o e : ReaderState) → Ended before after r o → EndsLine o e → ReadsLine before after r e
last_of before after r o e h l =
    let free : IsTrue (is_free_of 10 e.line) = subst (λ b. IsTrue (is_free_of 10 b)) (sym l.line) h.front.free in
    let short : length e.line ≤ longest_line = subst (λ b. length b ≤ longest_line) (sym l.line) h.front.short in
    let inside : r.behind + length e.line ≤ greatest_source = subst (λ b. r.behind + length b ≤ greatest_source) (sym l.line) h.front.inside in
    let some : 0 < length e.line = subst (λ b. 0 < length b) (sym l.line) l.some in
    let start : e.start ≡ r.behind = l.start ∙ h.behind in
    let number : e.number ≡ r.number + 1 = l.number ∙ ap (λ k. k + 1) h.number in
    let behind : e.behind ≡ r.behind + length e.line = l.behind ∙ ap (λ b. b + length o.line) h.behind ∙ ap (λ b. r.behind + length b) (sym l.line) in
    record {
      began = h.began;
      taken = e.line;
      gives = gives_so before after r.left (o.line ++ o.left) (e.line ++ e.left) h.gives (ap (λ b. b ++ o.left) (sym l.line) ∙ ap (λ b. e.line ++ b) (sym l.left));
      first = λ rest follows. last_at r e rest (follows l.ended) (last_line r e free some start number inside);
      unrefused = (short, subst (λ b. b ≤ greatest_source) (sym behind) inside);
      behind = behind;
      some = some;
      feed = λ is. absurd (not_both e.ended l.ended is);
    }
  where
    not_both : (b : Bool) → b ≡ true → b ≡ false → ⊥
    not_both true is other = absurd cc
    not_both false is other = absurd cc

alone_of : (before after : Option (List ℕ)) (r o e : ReaderState) → Ended before after r o → o.left ≡ [] → EndsAlone o e → ReadsEnd before after r e
alone_of before after r o e h none l =
    record {
      gives = gives_so before after r.left (o.line ++ o.left) [] h.gives (ap (λ b. b ++ o.left) l.line ∙ none);
      ended = l.ended;
      same = l.number ∙ h.number;
    }

pub ends_with : (before now after : Option (List ℕ)) (r n m o e : ReaderState) (next : Next) → IsReading before now r n → TakesAll n m → o ≡ record m { left = o.left } → Consumes now after o.left
    → o.left ≡ [] → EndsWith o e next → Reads before after r e next
ends_with before now after r n m o e Line h t is c none l = last_of before after r o e (ended_at before now after r n m o h t is c) l
ends_with before now after r n m o e End h t is c none l = alone_of before after r o e (ended_at before now after r n m o h t is c) none l
ends_with before now after r n m o e (Refused why) h t is c none l = absurd l

-- A source that had ended gives no line.
pub none_more : (left : Option (List ℕ)) (r n : ReaderState) → EndStands left r → r.ended ≡ true → n ≡ record r { line = [] } → ReadsEnd left left r n × EndStands left n
none_more left r n ends is same = (
  record {
    gives = record { more = []; consumes = Consumes-nil left; all_are = append-nil r.left ∙ ends.none is };
    ended = ap (λ (s : ReaderState). s.ended) same ∙ is;
    same = ap (λ (s : ReaderState). s.number) same;
  },
  record { at_end = λ e. ends.at_end is; none = λ e. ap (λ (s : ReaderState). s.left) same ∙ ends.none is },
)

-- One that has not ended stands anyhow.
pub open_stands : (left : Option (List ℕ)) (n : ReaderState) → n.ended ≡ false → EndStands left n
open_stands left n is = record { at_end = λ e. absurd (not_both n.ended e is); none = λ e. absurd (not_both n.ended e is) }
  where
    not_both : (b : Bool) → b ≡ true → b ≡ false → ⊥
    not_both true is other = absurd cc
    not_both false is other = absurd cc

-- ---- a read fails

-- Wherever it is broken off.
pub cut_off : (before now after : Option (List ℕ)) (r n : ReaderState) → IsReading before now r n → Keeps now after → IsCutOff before after r
cut_off before now after r n h k = record { began = h.began; bytes = n.line ++ n.left; gives = gives_kept before now after r.left (n.line ++ n.left) h.gives k }

pub cut_there : (before now : Option (List ℕ)) (r n : ReaderState) → IsReading before now r n → IsCutOff before now r
cut_there before now r n h = record { began = h.began; bytes = n.line ++ n.left; gives = h.gives }
