-- What came next is given, or ends the script.
use Rattle.sl_reader.specs.GivenAnswers.{lines_in}
use Rattle.sl_reader.specs.declared.live_lines.LiveLine.TheVariants.{Refused as RefusedLine}
use Rattle.sl_reader.specs.declared.live_lines.LiveLine.{LiveLine}
use Rattle.sl_reader.specs.declared.live_lines.NoLine.TheVariants as no_line_for
use Rattle.sl_reader.specs.declared.live_lines.NoLine.{NoLine}
use Rattle.sl_reader.specs.declared.scope.Scope.{Scope}
use Rattle.sl_reader.proofs.ScriptLaws.{ends_any, ends_since, refused_read}
use Rattle.sl_reader.specs.ScriptReading.{Answers, AnswersRefused, ArePlain, Comes, Ends, IsPlain, IsScript, Passes, ScriptLine, ScriptState, Stands, line_of}
use Rattle.sl_reader.specs.declared.script_reading.Came.TheVariants as came
use Rattle.sl_reader.specs.declared.script_reading.Came.{Came}
use Rattle.sl_reader.specs.declared.script_reading.ScriptEnd.TheVariants.{End, NoMemory, ReadFault, Refused}
use Rattle.sl_reader.specs.declared.script_reading.ScriptEnd.{ScriptEnd}
use Rattle.sl_reader.specs.LineReads.{EndStands, ReaderState}
use Rattle.sl_run.specs.declared.event.Refusal.{Refusal}
use Rattle.sl_reader.specs.declared.reader.ReadError.TheVariants as read_error
use Rattle.sl_reader.specs.declared.reader.ReadError.{ReadError}
use Rattle.std.proofs.Common.{Bool, List, None, Option, Some, [], ap, arith, false, map, refl, subst, sym, true, ℕ, ◌++◌, ◌≡◌, ◌≤◌, ◌∙◌, ◌∷◌}
use Rattle.std.proofs.lemmas.List.Elements.{All-push}
use Rattle.std.proofs.lemmas.List.{append-nil, map-append}
use Rattle.std.specs.Prelude.{Err, Ok, Result}

-- What a script was before, and what it is behind a read.
record Before (keeps : Bool) (s : Scope) (faults since : ℕ) (x : ScriptState) (given : List LiveLine) (told : List ScriptLine) : Type 0 where
  scope_is : x.scope ≡ s
  keeps_is : x.keeps ≡ keeps
  given_are : given ≡ map line_of told
  plain : ArePlain keeps told
  ends : EndStands x.left x.reader
  earlier : faults ≤ since
  more : since ≤ x.faults

ended_so : (keeps : Bool) (s : Scope) (first : Option (List ℕ)) (faults since : ℕ) (began : ReaderState) (x : ScriptState) (given has : List LiveLine) (told : List ScriptLine) (why : ScriptEnd)
    → Before keeps s faults since x given told → has ≡ given ++ [] → x.end ≡ Some why → Ends keeps s first x.left since x.faults began told why → IsScript keeps first faults began s x has
ended_so keeps s first faults since began x given has told why b has_are end_is e =
    record {
      scope_is = b.scope_is;
      keeps_is = b.keeps_is;
      more = omega (arith, b.earlier, b.more);
      told = told;
      given_are = has_are ∙ append-nil given ∙ b.given_are;
      plain = b.plain;
      stands = subst (Stands keeps s first x.left faults x.faults began x.reader told) (sym end_is) (ends_since keeps s first x.left faults since x.faults began told why b.earlier e);
    }

gone_on : (keeps : Bool) (s : Scope) (first : Option (List ℕ)) (faults since : ℕ) (began : ReaderState) (x : ScriptState) (given has : List LiveLine) (told : List ScriptLine) (read : ScriptLine) (l : LiveLine)
    → Before keeps s faults since x given told → (keeps ≡ false → IsPlain read) → l ≡ line_of read → has ≡ given ++ l ∷ [] → x.end ≡ None → Passes s first x.left began x.reader (told ++ read ∷ [])
    → IsScript keeps first faults began s x has
gone_on keeps s first faults since began x given has told read l b plain l_is has_are end_is p =
    record {
      scope_is = b.scope_is;
      keeps_is = b.keeps_is;
      more = omega (arith, b.earlier, b.more);
      told = told ++ read ∷ [];
      given_are = has_are ∙ ap (λ y. given ++ y ∷ []) l_is ∙ ap (λ xs. xs ++ line_of read ∷ []) b.given_are ∙ sym (map-append line_of told (read ∷ []));
      plain = λ is. All-push IsPlain told read (b.plain is) (plain is);
      stands = subst (Stands keeps s first x.left faults x.faults began x.reader (told ++ read ∷ [])) (sym end_is) (p, b.ends);
    }

none_given : (given has : List LiveLine) (answer other : Result (Option LiveLine) NoLine) → answer ≡ other → has ≡ given ++ lines_in answer → has ≡ given ++ lines_in other
none_given given has answer other same is = is ∙ ap (λ a. given ++ lines_in a) same

-- An end that each script has.
ended_any : (keeps : Bool) (s : Scope) (first : Option (List ℕ)) (faults since : ℕ) (began : ReaderState) (x : ScriptState) (given has : List LiveLine) (told : List ScriptLine) (why : ScriptEnd)
    → Before keeps s faults since x given told → has ≡ given ++ [] → x.end ≡ Some why → Ends true s first x.left since x.faults began told why → IsScript keeps first faults began s x has
ended_any keeps s first faults since began x given has told why b has_are end_is e =
    ended_so keeps s first faults since began x given has told why b has_are end_is (ends_any keeps s first x.left since x.faults began told why e)

-- A line that is refused for what it says.
refused_then : (keeps : Bool) (s : Scope) (first : Option (List ℕ)) (faults since : ℕ) (began : ReaderState) (x : ScriptState) (given has : List LiveLine) (told : List ScriptLine) (number : ℕ) (why : Refusal)
    (answer : Result (Option LiveLine) NoLine) → Before keeps s faults since x given told → has ≡ given ++ lines_in answer → Passes s first x.left began x.reader (told ++ (number, Err why) ∷ [])
    → AnswersRefused keeps number why answer x.end → IsScript keeps first faults began s x has
refused_then true s first faults since began x given has told number why answer b has_are p k =
    gone_on true s first faults since began x given has told (number, Err why) (RefusedLine number why) b (λ is. absurd cc) refl (none_given given has answer (Ok (Some (RefusedLine number why))) k.0 has_are)
    k.1 p
refused_then false s first faults since began x given has told number why answer b has_are p k =
    ended_so false s first faults since began x given has told (Refused number why) b (none_given given has answer (Err no_line_for.Refused) k.0 has_are) k.1
    (refused_read s first x.left since x.faults began x.reader told number why p b.ends)

comes_to : (keeps : Bool) (s : Scope) (first : Option (List ℕ)) (faults since : ℕ) (began : ReaderState) (x : ScriptState) (given has : List LiveLine) (told : List ScriptLine) (c : Result Came ReadError)
    (answer : Result (Option LiveLine) NoLine) → Before keeps s faults since x given told → has ≡ given ++ lines_in answer → Comes s first x.left since x.faults began x.reader told c
    → Answers keeps c answer x.end → IsScript keeps first faults began s x has
comes_to keeps s first faults since began x given has told (Ok (came.Says number (Ok l))) answer b has_are p k =
    gone_on keeps s first faults since began x given has told (number, Ok l) l b (λ is. tt) refl (none_given given has answer (Ok (Some l)) k.0 has_are) k.1 p
comes_to keeps s first faults since began x given has told (Ok (came.Says number (Err why))) answer b has_are p k =
    refused_then keeps s first faults since began x given has told number why answer b has_are p k
comes_to keeps s first faults since began x given has told (Ok came.End) answer b has_are e k =
    ended_any keeps s first faults since began x given has told End b (none_given given has answer (Ok None) k.0 has_are) k.1 e
comes_to keeps s first faults since began x given has told (Ok (came.Refused number why)) answer b has_are e k =
    ended_any keeps s first faults since began x given has told (Refused number why) b (none_given given has answer (Err no_line_for.Refused) k.0 has_are) k.1 e
comes_to keeps s first faults since began x given has told (Err read_error.Failed) answer b has_are e k =
    ended_any keeps s first faults since began x given has told ReadFault b (none_given given has answer (Err no_line_for.ReadFault) k.0 has_are) k.1 e
comes_to keeps s first faults since began x given has told (Err read_error.NoMemory) answer b has_are e k =
    ended_any keeps s first faults since began x given has told NoMemory b (none_given given has answer (Err no_line_for.NoMemory) k.0 has_are) k.1 e

-- The script goes on by what came.
pub script_next : (keeps : Bool) (first : Option (List ℕ)) (faults : ℕ) (began : ReaderState) (s : Scope) (x y : ScriptState) (given : List LiveLine) (c : Result Came ReadError)
    (answer : Result (Option LiveLine) NoLine) → IsScript keeps first faults began s x given → x.end ≡ None → EndStands y.left y.reader → x.faults ≤ y.faults → y.scope ≡ x.scope → y.keeps ≡ x.keeps
    → ((told : List ScriptLine) → Passes x.scope first x.left began x.reader told → Comes x.scope first y.left x.faults y.faults began y.reader told c) → Answers x.keeps c answer y.end
    → IsScript keeps first faults began s y (given ++ lines_in answer)
script_next keeps first faults began s x y given c answer is ongoing ends more scope same comes answers =
    let stood : Passes s first x.left began x.reader is.told × EndStands x.left x.reader = subst (Stands keeps s first x.left faults x.faults began x.reader is.told) ongoing is.stands in
    comes_to keeps s first faults x.faults began y given (given ++ lines_in answer) is.told c answer
    (record { scope_is = scope ∙ is.scope_is; keeps_is = same ∙ is.keeps_is; given_are = is.given_are; plain = is.plain; ends = ends; earlier = is.more; more = more }) refl
    (subst (λ z. Comes z first y.left x.faults y.faults began y.reader is.told c) is.scope_is (comes is.told (subst (λ z. Passes z first x.left began x.reader is.told) (sym is.scope_is) stood.0)))
    (subst (λ k. Answers k c answer y.end) is.keeps_is answers)
