-- A header that is read line by line, with its comments.
use Rattle.sl_draw.specs.Captions.{IsCaption, TitleBegins, comment_in, comments_of}
use Rattle.sl_reader.proofs.HeaderSteps.{IsWithin, gives_so, gives_then, has_read_more, next_line, open_follows, unrefused}
use Rattle.sl_reader.specs.HeaderBegins.{HeaderGoesOn, lines_left}
use Rattle.sl_reader.specs.LineReads.{MayFollow, ReaderState, ReadsLine, line_of, no_line}
use Rattle.sl_report.specs.HeaderLines.{HeaderLine}
use Rattle.sl_report.specs.Languages.{whole_language}
use Rattle.sl_report.specs.Schedules.{NumberedLine, numbered_lines, read_header}
use Rattle.sl_run.specs.declared.header.Header.{Header}
use Rattle.sl_schedule.proofs.ScheduleLaws.{going_on, read_header-line}
use Rattle.sl_schedule.specs.HeadersSoFar.{answer_after, lines_after}
use Rattle.sl_schedule.specs.declared.header.Added.TheVariants.{Begun, More}
use Rattle.sl_schedule.specs.declared.header.Added.{Added}
use Rattle.std.proofs.Common.{List, Option, [], ap, inl, refl, subst, sym, ℕ, ◌++◌, ◌+◌, ◌∙◌, ◌∷◌, ◌≡◌}
use Rattle.std.proofs.KnownBytes.{Consumes-nil}
use Rattle.std.proofs.lemmas.List.Concat.{flat_map-append}
use Rattle.std.proofs.lemmas.List.{append-nil, append_assoc}

-- A reading of a header, within it, with the comments so far.
pub record IsTitled (first now : Option (List ℕ)) (r : ReaderState) (caption : List (List ℕ)) (ls : List HeaderLine) : Type 0 where
  pub within : IsWithin first now r ls
  pub so_far : IsCaption within.consumed r caption

pub at_first : (left : Option (List ℕ)) (r : ReaderState) (caption : List (List ℕ)) → r ≡ no_line → caption ≡ [] → IsTitled left left r caption []
at_first left r caption is none =
    subst (λ (s : ReaderState). IsTitled left left s caption []) (sym is)
    (record {
      within = record {
        consumed = [];
        gives = record { more = []; consumes = Consumes-nil left; all_are = refl };
        goes = record { has_read = record { behind = refl; whole = λ h. inl refl }; reads = λ rest follows. refl };
      };
      so_far = record { above = []; lines = λ rest follows. refl; comments = none };
    })

-- ---- one more line

-- What the answer to a line makes of a source.
stepped : (before after : Option (List ℕ)) (consumed : List ℕ) (ls : List HeaderLine) (r n : ReaderState) → HeaderGoesOn consumed ls r → (l : ReadsLine before after r n) → (added : Added)
    → added ≡ answer_after ls n.line → (rest : List ℕ) → MayFollow n.ended rest
    → going_on added (lines_after ls n.line) n.number (lines_left (consumed ++ l.taken) rest n) ≡ read_header whole_language [] 1 (numbered_lines ((consumed ++ l.taken) ++ rest))
stepped before after consumed ls r n h l added is rest follows =
    ap (λ a. going_on a (lines_after ls n.line) n.number (lines_left (consumed ++ l.taken) rest n)) is
    ∙ sym (read_header-line ls (r.number + 1) (line_of n) (lines_left (consumed ++ l.taken) rest n) (unrefused n l.unrefused.0))
    ∙ ap (read_header whole_language ls (r.number + 1)) (sym (next_line before after consumed r n h.has_read.behind l rest follows))
    ∙ h.reads (l.taken ++ rest) (open_follows r.ended (l.taken ++ rest) l.began)
    ∙ ap (λ s. read_header whole_language [] 1 (numbered_lines s)) (sym (append_assoc consumed l.taken rest))

comments_more : (above : List NumberedLine) (l : NumberedLine) → comments_of above ++ comment_in l.text ≡ comments_of (above ++ l ∷ [])
comments_more above l = sym (flat_map-append (λ (m : NumberedLine). comment_in m.text) above (l ∷ []) ∙ ap (λ x. comments_of above ++ x) (append-nil (comment_in l.text)))

-- It stands behind those above it, and its comment, if it is one, behind theirs.
caption_more : (before after : Option (List ℕ)) (consumed : List ℕ) (ls : List HeaderLine) (r n : ReaderState) (caption : List (List ℕ)) → HeaderGoesOn consumed ls r → IsCaption consumed r caption
    → (l : ReadsLine before after r n) → (more : List (List ℕ)) → more ≡ caption ++ comment_in n.line → IsCaption (consumed ++ l.taken) n more
caption_more before after consumed ls r n caption h c l more is =
    record {
      above = c.above ++ line_of n ∷ [];
      lines = λ rest follows.
          ap numbered_lines (append_assoc consumed l.taken rest) ∙ c.lines (l.taken ++ rest) (open_follows r.ended (l.taken ++ rest) l.began)
          ∙ ap (λ ms. c.above ++ ms) (next_line before after consumed r n h.has_read.behind l rest follows)
          ∙ sym (append_assoc c.above (line_of n ∷ []) (lines_left (consumed ++ l.taken) rest n));
      comments = is ∙ ap (λ x. x ++ comment_in n.line) c.comments ∙ comments_more c.above (line_of n);
    }

pub goes_more : (first before after : Option (List ℕ)) (r n : ReaderState) (caption more : List (List ℕ)) (ls : List HeaderLine) → IsTitled first before r caption ls → ReadsLine before after r n
    → more ≡ caption ++ comment_in n.line → More ≡ answer_after ls n.line → IsTitled first after n more (lines_after ls n.line)
goes_more first before after r n caption more ls t l comment is =
    let w = t.within in
    record {
      within = record {
        consumed = w.consumed ++ l.taken;
        gives = gives_so first after [] (w.consumed ++ (l.taken ++ n.left)) ((w.consumed ++ l.taken) ++ n.left) (gives_then first before after [] w.consumed r.left (l.taken ++ n.left) w.gives l.gives)
            (sym (append_assoc w.consumed l.taken n.left));
        goes = record {
          has_read = has_read_more before after w.consumed r n w.goes.has_read l;
          reads = λ rest follows. stepped before after w.consumed ls r n w.goes l More is rest follows;
        };
      };
      so_far = caption_more before after w.consumed ls r n caption w.goes t.so_far l more comment;
    }

pub begins_there : (first before after : Option (List ℕ)) (r n : ReaderState) (caption more : List (List ℕ)) (ls : List HeaderLine) (h : Header) → IsTitled first before r caption ls
    → ReadsLine before after r n → more ≡ caption ++ comment_in n.line → Begun h ≡ answer_after ls n.line → TitleBegins first after n more h
begins_there first before after r n caption more ls h t l comment is =
    let w = t.within in
    record {
      begins = record {
        consumed = w.consumed ++ l.taken;
        gives = gives_so first after [] (w.consumed ++ (l.taken ++ n.left)) ((w.consumed ++ l.taken) ++ n.left) (gives_then first before after [] w.consumed r.left (l.taken ++ n.left) w.gives l.gives)
            (sym (append_assoc w.consumed l.taken n.left));
        has_read = has_read_more before after w.consumed r n w.goes.has_read l;
        reads = λ rest follows. sym (stepped before after w.consumed ls r n w.goes l (Begun h) is rest follows);
      };
      titled = caption_more before after w.consumed ls r n caption w.goes t.so_far l more comment;
    }
