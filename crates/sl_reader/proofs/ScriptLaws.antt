-- A script that is read line by line.
use Rattle.sl_reader.specs.LiveLines.{checked, live_line, live_line_in}
use Rattle.sl_reader.specs.declared.live_lines.LiveLine.{LiveLine}
use Rattle.sl_reader.specs.declared.scope.Scope.{Scope}
use Rattle.sl_reader.specs.ScriptReading.{ArePlain, Comes, Ends, EndsUnread, IsPlain, IsScript, Leaves, Passes, ReadsScriptBy, Says, ScriptLine, ScriptState, Stands, Tells, TellsComplete, came_of, following, script_lines}
use Rattle.sl_reader.specs.ScriptReading.{line_of as given_line}
use Rattle.sl_reader.specs.declared.script_reading.Came.{Came}
use Rattle.sl_reader.specs.declared.script_reading.ScriptEnd.TheVariants.{End, NoMemory, ReadFault, Refused}
use Rattle.sl_reader.specs.declared.script_reading.ScriptEnd.{ScriptEnd}
use Rattle.sl_report.specs.Languages.{whole_language}
use Rattle.sl_report.specs.Schedules.{NumberedLine, line_refusal, numbered_from, numbered_lines, read_header}
use Rattle.sl_run.specs.declared.event.Refusal.{Refusal}
use Rattle.sl_run.specs.declared.header.Header.{Header}
use Rattle.sl_reader.proofs.HeaderSteps.{gives_so, gives_then, open_follows}
use Rattle.sl_reader.specs.HeaderBegins.{AreWholeLines, HeaderBegins, lines_left}
use Rattle.sl_reader.specs.LineReads.{EndStands, Fails, Gives, IsCutOff, MayFollow, ReaderState, ReadsEnd, ReadsLine, ReadsRefused, RefusesLine, line_of}
use Rattle.sl_reader.specs.declared.reader.ReadError.TheVariants.{Failed, NoMemory as NoRoom}
use Rattle.sl_reader.specs.declared.reader.ReadError.{ReadError}
use Rattle.sl_text.specs.Forms.{lines_of}
use Rattle.sl_io.specs.FaultCauses.{Rose}
use Rattle.std.proofs.Common.{Bool, List, None, Option, Some, [], ap, arith, false, inl, inr, length, length-append, map, refl, subst, sym, true, ℕ, ◌++◌, ◌+◌, ◌≡◌, ◌≤◌, ◌∙◌, ◌∷◌}
use Rattle.std.proofs.KnownBytes.{Consumes-nil}
use Rattle.std.proofs.lemmas.List.Elements.{All-nil}
use Rattle.std.proofs.lemmas.List.{append-nil, append_assoc}
use Rattle.std.specs.Io.KnownBytes.{Consumes}
use Rattle.std.specs.List.{cons_option}
use Rattle.std.specs.Option.{option_to_list}
use Rattle.std.specs.Prelude.{Err, Ok}

-- ---- lines

cons_list : {A : Type 0} (o : Option A) (xs : List A) → cons_option o xs ≡ option_to_list o ++ xs
cons_list None xs = refl
cons_list (Some x) xs = refl

-- What a first line says, and then what those behind it say.
said_first : (s : Scope) (l : NumberedLine) (ls : List NumberedLine) → script_lines s (l ∷ ls) ≡ option_to_list (live_line s l) ++ script_lines s ls
said_first s l ls = cons_list (live_line s l) (script_lines s ls)

-- Lines of a source of so many bytes.
abbrev within : ℕ → ReaderState → List ℕ → List NumberedLine
within total r bytes = numbered_from total r.behind (r.number + 1) (lines_of bytes)

-- The next line is the first of those that follow.
next_follows : (before after : Option (List ℕ)) (r n : ReaderState) (l : ReadsLine before after r n) (rest : List ℕ) → MayFollow n.ended rest
    → following r (l.taken ++ rest) ≡ line_of n ∷ following n rest
next_follows before after r n l rest follows =
    let total : r.behind + length (l.taken ++ rest) ≡ n.behind + length rest = omega (arith, length-append l.taken rest, l.behind) in
    l.first rest follows ∙ ap (λ t. line_of n ∷ within t n rest) total

-- ---- reading on

-- Nothing was read yet.
pub passes_none : (s : Scope) (first : Option (List ℕ)) (r : ReaderState) → Passes s first first r r []
passes_none s first r =
    record {
      consumed = [];
      gives = record { more = []; consumes = Consumes-nil first; all_are = append-nil r.left };
      behind = omega arith;
      still = λ is. (is, inl refl);
      follows = λ rest follows. follows;
      says = λ rest follows. refl;
    }

-- So a script begins.
pub begins : (keeps : Bool) (first : Option (List ℕ)) (faults : ℕ) (began : ReaderState) (scope : Scope) (x : ScriptState) → x.left ≡ first → x.faults ≡ faults → x.reader ≡ began → x.scope ≡ scope
    → x.keeps ≡ keeps → x.end ≡ None → EndStands x.left x.reader → IsScript keeps first faults began scope x []
begins keeps first faults began scope x left_is faults_are began_is scope_is keeps_is ongoing ends = record {
  scope_is = scope_is;
  keeps_is = keeps_is;
  more = omega (arith, faults_are);
  told = [];
  given_are = refl;
  plain = λ is. All-nil IsPlain;
  stands = subst (Stands keeps scope first x.left faults x.faults began x.reader []) (sym ongoing)
      (subst (λ n. Passes scope first n began x.reader []) (sym left_is) (subst (λ b. Passes scope first first b x.reader []) began_is (passes_none scope first x.reader)), ends);
}

-- A line more.
pub passes_line : (s : Scope) (first before after : Option (List ℕ)) (began r n : ReaderState) (told : List ScriptLine) → Passes s first before began r told → ReadsLine before after r n
    → Passes s first after began n (told ++ option_to_list (live_line s (line_of n)))
passes_line s first before after began r n told p l =
    let said : List ScriptLine = option_to_list (live_line s (line_of n)) in
    record {
      consumed = p.consumed ++ l.taken;
      gives = gives_so first after began.left (p.consumed ++ (l.taken ++ n.left)) ((p.consumed ++ l.taken) ++ n.left)
          (gives_then first before after began.left p.consumed r.left (l.taken ++ n.left) p.gives l.gives) (sym (append_assoc p.consumed l.taken n.left));
      behind = omega (arith, p.behind, l.behind, length-append p.consumed l.taken);
      still = λ is. ((p.still l.began).0, inr (p.consumed ++ n.line, ap (λ t. p.consumed ++ t) (l.feed is) ∙ sym (append_assoc p.consumed n.line (10 ∷ []))));
      follows = λ rest follows. subst (MayFollow began.ended) (sym (append_assoc p.consumed l.taken rest)) (p.follows (l.taken ++ rest) (open_follows r.ended (l.taken ++ rest) l.began));
      says = λ rest follows.
          ap (λ bytes. script_lines s (following began bytes)) (append_assoc p.consumed l.taken rest)
          ∙ p.says (l.taken ++ rest) (open_follows r.ended (l.taken ++ rest) l.began)
          ∙ ap (λ ls. told ++ script_lines s ls) (next_follows before after r n l rest follows)
          ∙ ap (λ xs. told ++ xs) (said_first s (line_of n) (following n rest))
          ∙ sym (append_assoc told said (script_lines s (following n rest)));
    }

-- The same, where it is known what the line says.
pub passes_by : (s : Scope) (first before after : Option (List ℕ)) (began r n : ReaderState) (told : List ScriptLine) (seen : NumberedLine) (says : Option ScriptLine)
    → Passes s first before began r told → ReadsLine before after r n → seen ≡ line_of n → says ≡ live_line s seen → Passes s first after began n (told ++ option_to_list says)
passes_by s first before after began r n told seen says p l is read =
    subst (λ o. Passes s first after began n (told ++ option_to_list o)) (sym (read ∙ ap (live_line s) is)) (passes_line s first before after began r n told p l)

-- A comment more.
pub passes_silent : (s : Scope) (first now : Option (List ℕ)) (began r : ReaderState) (told : List ScriptLine) → Passes s first now began r (told ++ []) → Passes s first now began r told
passes_silent s first now began r told p = subst (Passes s first now began r) (append-nil told) p

-- ---- what was read says these, and others

left_follows : (now : Option (List ℕ)) (r : ReaderState) → EndStands now r → (rest : List ℕ) → MayFollow r.ended rest → MayFollow r.ended (r.left ++ rest)
left_follows now r ends rest follows = λ is. ap (λ x. x ++ rest) (ends.none is) ∙ follows is

-- With what stands behind the last line.
pub tells_of : (s : Scope) (first now : Option (List ℕ)) (began r : ReaderState) (told more : List ScriptLine) (Then : List ScriptLine → Type 0) → Passes s first now began r (told ++ more) → EndStands now r
    → ((xs : List ScriptLine) → Then (more ++ xs)) → Tells s first now began r.ended told Then
tells_of s first now began r told more Then p ends then =
    record {
      bytes = p.consumed ++ r.left;
      gives = p.gives;
      at_end = λ is. ends.at_end is;
      follows = λ rest follows. subst (MayFollow began.ended) (sym (append_assoc p.consumed r.left rest)) (p.follows (r.left ++ rest) (left_follows now r ends rest follows));
      says = λ rest follows. (
        more ++ script_lines s (following r (r.left ++ rest)),
        ap (λ bytes. script_lines s (following began bytes)) (append_assoc p.consumed r.left rest) ∙ p.says (r.left ++ rest) (left_follows now r ends rest follows)
            ∙ append_assoc told more (script_lines s (following r (r.left ++ rest))),
        then (script_lines s (following r (r.left ++ rest))),
      );
    }

-- Where reading was broken off.
tells_cut : (s : Scope) (first before after : Option (List ℕ)) (began r : ReaderState) (told : List ScriptLine) (bytes : List ℕ) (Then : List ScriptLine → Type 0) → Passes s first before began r told
    → r.ended ≡ false → Gives before after r.left bytes → ((rest : List ℕ) → Then (script_lines s (following r (bytes ++ rest)))) → Tells s first after began false told Then
tells_cut s first before after began r told bytes Then p open_still gives then =
    record {
      bytes = p.consumed ++ bytes;
      gives = gives_then first before after began.left p.consumed r.left bytes p.gives gives;
      at_end = λ is. absurd cc;
      follows = λ rest follows. open_follows began.ended ((p.consumed ++ bytes) ++ rest) (p.still open_still).0;
      says = λ rest follows. (
        script_lines s (following r (bytes ++ rest)),
        ap (λ b. script_lines s (following began b)) (append_assoc p.consumed bytes rest) ∙ p.says (bytes ++ rest) (open_follows r.ended (bytes ++ rest) open_still),
        then rest,
      );
    }

-- ---- the ends

-- None is left.
pub ends_there : (s : Scope) (first before after : Option (List ℕ)) (faults later : ℕ) (began r n : ReaderState) (told : List ScriptLine) → Passes s first before began r told → ReadsEnd before after r n
    → EndStands after n → Ends true s first after faults later began told End
ends_there s first before after faults later began r n told p e ends =
    record {
      ended = true;
      tells = record {
        bytes = p.consumed ++ [];
        gives = gives_then first before after began.left p.consumed r.left [] p.gives e.gives;
        at_end = λ is. ends.at_end e.ended;
        follows = λ rest follows. subst (MayFollow began.ended) (sym (nothing rest follows)) (p.follows [] (λ is. refl));
        says = λ rest follows. (
          [],
          ap (λ b. script_lines s (following began b)) (nothing rest follows) ∙ p.says [] (λ is. refl),
          refl,
        );
      };
      to_end = λ is. refl;
      fault = λ is. absurd cc;
      unread = λ is number why same. absurd cc;
    }
  where
    nothing : (rest : List ℕ) → MayFollow true rest → (p.consumed ++ []) ++ rest ≡ p.consumed ++ []
    nothing rest follows = append_assoc p.consumed [] rest ∙ ap (λ x. p.consumed ++ x) (follows refl)

unread : (s : Scope) (l : NumberedLine) (why : Refusal) → line_refusal l ≡ Some why → live_line s l ≡ Some (l.number, Err why)
unread s l why is =
    ap (λ o. elim o as (λ z. Option ScriptLine) [
      | Some r ↦ Some (l.number, Err r)
      | None ↦ elim (whole_language.skips l.text) [ true ↦ None | false ↦ Some (l.number, checked s (live_line_in s l.text)) ]
    ]) is

-- A line is refused before it is read.
pub refused_unread : (s : Scope) (first before after : Option (List ℕ)) (faults later : ℕ) (began r n : ReaderState) (told : List ScriptLine) (number : ℕ) (why : Refusal) → Passes s first before began r told
    → ReadsRefused before after r n why → number ≡ n.number + 1 → Ends true s first after faults later began told (Refused number why)
unfolding tells_cut
refused_unread s first before after faults later began r n told number why p x is =
    record {
      ended = false;
      tells = tells_cut s first before after began r told x.bytes (Leaves (Some (Refused number why))) p x.began x.gives then;
      to_end = λ same. absurd cc;
      fault = λ same. absurd cc;
      unread = λ is other what same. record {
        before = p.consumed;
        line = x.bytes;
        cut = refl;
        refuses = subst (RefusesLine (began.behind + length p.consumed) x.bytes) (why_same number other why what same) (subst (λ at. RefusesLine at x.bytes why) p.behind x.refuses);
      };
    }
  where
    why_same : (a b : ℕ) (v w : Refusal) → Some (Refused a v) ≡ Some (Refused b w) → v ≡ w
    why_same a b v w is = cc

    then : (rest : List ℕ) → (more : List ScriptLine) × (script_lines s (following r (x.bytes ++ rest)) ≡ (number, Err why) ∷ more)
    then rest =
        let f = x.refuses.first rest (r.number + 1) in
        let l : NumberedLine = x.refuses.line rest (r.number + 1) in
        let same : l.number ≡ number = x.refuses.numbered rest (r.number + 1) ∙ ap (λ k. k + 1) (sym x.same) ∙ sym is in (
          script_lines s f.others,
          ap (script_lines s) f.lines ∙ said_first s l f.others
              ∙ ap (λ o. option_to_list o ++ script_lines s f.others) (unread s l why (x.refuses.refused rest (r.number + 1)))
              ∙ ap (λ k. (k, Err why) ∷ script_lines s f.others) same,
        )

-- .. or for what it says, where a script does not go on behind such a line.
pub refused_read : (s : Scope) (first now : Option (List ℕ)) (faults later : ℕ) (began r : ReaderState) (told : List ScriptLine) (number : ℕ) (why : Refusal)
    → Passes s first now began r (told ++ (number, Err why) ∷ []) → EndStands now r → Ends false s first now faults later began told (Refused number why)
refused_read s first now faults later began r told number why p ends =
    record {
      ended = r.ended;
      tells = tells_of s first now began r told ((number, Err why) ∷ []) (Leaves (Some (Refused number why))) p ends (λ xs. (xs, refl));
      to_end = λ same. absurd cc;
      fault = λ same. absurd cc;
      unread = λ is other what same. absurd cc;
    }

-- There was no memory within a line ..
pub lacks_within : (s : Scope) (first before after : Option (List ℕ)) (faults later : ℕ) (began r : ReaderState) (told : List ScriptLine) → Passes s first before began r told → IsCutOff before after r
    → Ends true s first after faults later began told NoMemory
lacks_within s first before after faults later began r told p x =
    record {
      ended = false;
      tells = tells_cut s first before after began r told x.bytes (Leaves (Some NoMemory)) p x.began x.gives (λ rest. tt);
      to_end = λ same. absurd cc;
      fault = λ same. absurd cc;
      unread = λ is number why same. absurd cc;
    }

-- .. or behind it.
pub lacks_behind : (s : Scope) (first now : Option (List ℕ)) (faults later : ℕ) (began r : ReaderState) (told more : List ScriptLine) → Passes s first now began r (told ++ more) → EndStands now r
    → Ends true s first now faults later began told NoMemory
lacks_behind s first now faults later began r told more p ends =
    record {
      ended = r.ended;
      tells = tells_of s first now began r told more (Leaves (Some NoMemory)) p ends (λ xs. tt);
      to_end = λ same. absurd cc;
      fault = λ same. absurd cc;
      unread = λ is number why same. absurd cc;
    }

-- A read failed.
pub fails_within : (s : Scope) (first before after : Option (List ℕ)) (faults later : ℕ) (began r : ReaderState) (told : List ScriptLine) → Passes s first before began r told → Fails before after r → Rose faults later
    → Ends true s first after faults later began told ReadFault
unfolding tells_cut
fails_within s first before after faults later began r told p x rose =
    record {
      ended = false;
      tells = tells_cut s first before after began r told x.bytes (Leaves (Some ReadFault)) p x.open_still x.gives (λ rest. tt);
      to_end = λ same. absurd cc;
      fault = λ same. (
        rose,
        record {
          complete = p.consumed;
          partial = x.bytes;
          cut = refl;
          open_still = (p.still x.open_still).0;
          whole = (p.still x.open_still).1;
          free = x.free;
          says = ap (λ b. script_lines s (following began b)) (sym (append-nil p.consumed)) ∙ p.says [] (λ is. refl) ∙ append-nil told;
        },
      );
      unread = λ is number why same. absurd cc;
    }

-- An end stays one where more faults were counted before or since.
pub ends_since : (keeps : Bool) (s : Scope) (first now : Option (List ℕ)) (before faults later : ℕ) (began : ReaderState) (told : List ScriptLine) (end : ScriptEnd) → before ≤ faults → Ends keeps s first now faults later began told end
    → Ends keeps s first now before later began told end
ends_since keeps s first now before faults later began told end earlier e =
    record {
      ended = e.ended;
      tells = e.tells;
      to_end = e.to_end;
      fault = λ is. let f = e.fault is in (rose_since before faults later earlier f.0, f.1);
      unread = e.unread;
    }
  where
    rose_since : (a b c : ℕ) → a ≤ b → Rose b c → Rose a c
    rose_since a b c h rose = omega (arith, h, rose)

-- An end that every script has.
pub ends_any : (keeps : Bool) (s : Scope) (first now : Option (List ℕ)) (faults later : ℕ) (began : ReaderState) (told : List ScriptLine) (end : ScriptEnd) → Ends true s first now faults later began told end
    → Ends keeps s first now faults later began told end
ends_any keeps s first now faults later began told end e =
    record {
      ended = e.ended;
      tells = e.tells;
      to_end = e.to_end;
      fault = e.fault;
      unread = λ is. e.unread refl;
    }

-- ---- what came next

-- A read failed, or there was no memory for the line.
pub failed_so : (s : Scope) (first before after : Option (List ℕ)) (faults since later : ℕ) (began r n : ReaderState) (told : List ScriptLine) (e : ReadError) → Passes s first before began r told
    → (e ≡ Failed → Fails before after r × Rose since later) → IsCutOff before after r → faults ≤ since → Comes s first after faults later began n told (Err e)
failed_so s first before after faults since later began r n told Failed p fails cut earlier =
    let f = fails refl in
    ends_since true s first after faults since later began told ReadFault earlier (fails_within s first before after since later began r told p f.0 f.1)
failed_so s first before after faults since later began r n told NoRoom p fails cut earlier = lacks_within s first before after faults later began r told p cut

-- A line said something.
told_so : (s : Scope) (first now : Option (List ℕ)) (faults later : ℕ) (began r : ReaderState) (told : List ScriptLine) (read : ScriptLine) → Passes s first now began r (told ++ read ∷ [])
    → Comes s first now faults later began r told (Ok (came_of read))
told_so s first now faults later began r told (number, said) p = p

pub said_so : (s : Scope) (first before after : Option (List ℕ)) (faults later : ℕ) (began r n : ReaderState) (told : List ScriptLine) (seen : NumberedLine) (read : ScriptLine) (came : Came)
    → Passes s first before began r told → ReadsLine before after r n → seen ≡ line_of n → Some read ≡ live_line s seen → came ≡ came_of read
    → Comes s first after faults later began n told (Ok came)
said_so s first before after faults later began r n told seen read came p l is says same =
    subst (λ c. Comes s first after faults later began n told (Ok c)) (sym same)
    (told_so s first after faults later began n told read (passes_by s first before after began r n told seen (Some read) p l is says))

-- There was no memory to read it.
pub unsaid_so : (s : Scope) (first before after : Option (List ℕ)) (faults later : ℕ) (began r n : ReaderState) (told : List ScriptLine) → Passes s first before began r told → ReadsLine before after r n
    → EndStands after n → Ends true s first after faults later began told NoMemory
unsaid_so s first before after faults later began r n told p l ends =
    lacks_behind s first after faults later began n told (option_to_list (live_line s (line_of n))) (passes_line s first before after began r n told p l) ends

-- It said nothing.
pub silent_so : (s : Scope) (first before after : Option (List ℕ)) (began r n : ReaderState) (told : List ScriptLine) (seen : NumberedLine) → Passes s first before began r told → ReadsLine before after r n
    → seen ≡ line_of n → None ≡ live_line s seen → Passes s first after began n told
silent_so s first before after began r n told seen p l is says =
    passes_silent s first after began n told (passes_by s first before after began r n told seen None p l is says)

-- ---- the whole script

-- Whole lines behind whole lines.
whole_both : (a b : List ℕ) → AreWholeLines a → AreWholeLines b → AreWholeLines (a ++ b)
whole_both a b first (inl none) = subst AreWholeLines (sym (ap (λ x. a ++ x) none ∙ append-nil a)) first
whole_both a b first (inr some) = inr (a ++ some.0, ap (λ x. a ++ x) some.1 ∙ sym (append_assoc a some.0 (10 ∷ [])))

-- The lines behind a header are those that follow its last one.
left_is : (first left : Option (List ℕ)) (began : ReaderState) (h : Header) (b : HeaderBegins first left began h) (rest : List ℕ) → lines_left b.consumed rest began ≡ following began rest
left_is first left began h b rest =
    let total : length (b.consumed ++ rest) ≡ began.behind + length rest = omega (arith, length-append b.consumed rest, b.has_read.behind) in
    ap (λ t. within t began rest) total

says_at : (first left : Option (List ℕ)) (began : ReaderState) (h : Header) (s : Scope) (b : HeaderBegins first left began h) (bytes source : List ℕ) (told others : List ScriptLine)
    → source ≡ b.consumed ++ bytes → MayFollow began.ended bytes → script_lines s (following began bytes) ≡ told ++ others → Says s h source told others
says_at first left began h s b bytes source told others is follows says =
    record {
      behind = lines_left b.consumed bytes began;
      header = ap (λ x. read_header whole_language [] 1 (numbered_lines x)) is ∙ b.reads bytes follows;
      lines = ap (script_lines s) (left_is first left began h b bytes) ∙ says;
    }

consumed_all : (first now : Option (List ℕ)) (all : List ℕ) → Gives first now [] all → Consumes first now all
consumed_all first now all g = subst (Consumes first now) g.all_are g.consumes

-- What is unread behind a header, told of the whole source.
unread_by : (keeps : Bool) (end : Option ScriptEnd) (start : ℕ) (header bytes : List ℕ) → start ≡ length header → EndsUnread keeps end start bytes → EndsUnread keeps end 0 (header ++ bytes)
unread_by keeps end start header bytes start_is unread =
    λ is number why same.
    let u = unread is number why same in
    record {
      before = header ++ u.before;
      line = u.line;
      cut = ap (λ x. header ++ x) u.cut ∙ sym (append_assoc header u.before u.line);
      refuses = subst (λ at. RefusesLine at u.line why) (behind u.before) u.refuses;
    }
  where
    behind : (before : List ℕ) → start + length before ≡ 0 + length (header ++ before)
    behind before = omega (arith, start_is, length-append header before)

-- What was read behind the header, told of the whole source.
reads_by : (keeps : Bool) (first left now : Option (List ℕ)) (faults later : ℕ) (began : ReaderState) (h : Header) (s : Scope) (given : List LiveLine) (told : List ScriptLine) (end : Option ScriptEnd) (ended : Bool)
    → HeaderBegins first left began h → given ≡ map given_line told → ArePlain keeps told → (t : Tells s left now began ended told (Leaves end)) → (end ≡ Some End → ended ≡ true)
    → (end ≡ Some ReadFault → Rose faults later × TellsComplete s began t.bytes told) → EndsUnread keeps end began.behind t.bytes → ReadsScriptBy s keeps first now faults later h given end
reads_by keeps first left now faults later began h s given told end ended b given_are plain t to_end fault unread =
    record {
      read = b.consumed ++ t.bytes;
      ended = ended;
      reads = consumed_all first now (b.consumed ++ t.bytes) (gives_then first left now [] b.consumed began.left t.bytes b.gives t.gives);
      at_end = t.at_end;
      told = told;
      given_are = given_are;
      plain = plain;
      says = λ rest follows.
          let x = t.says rest follows in (
            x.0,
            says_at first left began h s b (t.bytes ++ rest) ((b.consumed ++ t.bytes) ++ rest) told x.0 (append_assoc b.consumed t.bytes rest) (t.follows rest follows) x.1,
            x.2,
          );
      to_end = to_end;
      fault = λ is.
          let f = fault is in
          let c = f.1 in (
            f.0,
            record {
              complete = b.consumed ++ c.complete;
              partial = c.partial;
              cut = ap (λ x. b.consumed ++ x) c.cut ∙ sym (append_assoc b.consumed c.complete c.partial);
              whole = whole_both b.consumed c.complete (b.has_read.whole c.open_still) c.whole;
              free = c.free;
              says = says_at first left began h s b c.complete (b.consumed ++ c.complete) told [] refl (open_follows began.ended c.complete c.open_still) (c.says ∙ sym (append-nil told));
            },
          );
      unread = unread_by keeps end began.behind b.consumed t.bytes b.has_read.behind unread;
    }

pub reads_script : (keeps : Bool) (first left now : Option (List ℕ)) (faults later : ℕ) (began r : ReaderState) (h : Header) (s : Scope) (given : List LiveLine) (told : List ScriptLine) (end : Option ScriptEnd)
    → HeaderBegins first left began h → given ≡ map given_line told → ArePlain keeps told → Stands keeps s left now faults later began r told end
    → ReadsScriptBy s keeps first now faults later h given end
reads_script keeps first left now faults later began r h s given told None b given_are plain stands =
    reads_by keeps first left now faults later began h s given told None r.ended b given_are plain
    (tells_of s left now began r told [] (Leaves None) (subst (Passes s left now began r) (sym (append-nil told)) stands.0) stands.1 (λ xs. tt)) (λ is. absurd cc) (λ is. absurd cc)
    (λ is number why same. absurd cc)
reads_script keeps first left now faults later began r h s given told (Some end) b given_are plain stands =
    reads_by keeps first left now faults later began h s given told (Some end) stands.ended b given_are plain stands.tells (λ is. stands.to_end (the_same end End is))
    (λ is. stands.fault (the_same end ReadFault is)) stands.unread
  where
    the_same : (a b : ScriptEnd) → Some a ≡ Some b → a ≡ b
    the_same a b is = cc
