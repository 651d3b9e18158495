use Rattle.std.proofs.Common.{◌≡◌, ℕ, ◌+◌, ◌<◌, List, ◌∷◌, ◌++◌, length, drop, ap, subst, sym, ◌∙◌, append_assoc, rules}
use Rattle.std.specs.Prelude.{slice_index_or}
use Rattle.std.specs.Int.{w16, to_be_bytes}
use Rattle.std.specs.List.{flat_map}
use Rattle.std.proofs.lemmas.List.{drop_more}
use Rattle.cell_page.specs.Format.{page_bytes}
use Rattle.core_store.specs.declared.frame.Frame.{Frame}
use Rattle.script_lines.specs.Output.{AppendsFront}
use Rattle.stream_writing.specs.Base.{pages_in}
use Rattle.stream_writing.proofs.BaseLaws.{front_of, front_behind, first_bytes, bytes_split, next_bytes}
use Rattle.stream_writing.proofs.base.write_base.Goals as goal

pub returns-in-Err-clause-front : goal.returns-in-Err-clause-front
returns-in-Err-clause-front g c =
    front_of (g.W.Sink.written c.args.out.now) (g.W.Sink.written c.write_number.new.out) (to_be_bytes w16 (length c.args.frames.now)) (flat_map page_bytes (pages_in c.args.frames.now)) c.in-Err.ensures.front

pub returns-in-Err-write_page-clause-front : goal.returns-in-Err-write_page-clause-front
returns-in-Err-write_page-clause-front g c =
    let frames = c.args.frames.now in
    let at = c.pages.frame-index in
    let f = c.frame-item.result in
    let low : at < length frames = search rules in
    let here : slice_index_or frames at f ≡ f = search rules in
    let next : drop at frames ≡ f ∷ drop (at + 1) frames = drop_more frames at f low ∙ ap (λ (x : Frame g.row.SLOTS). x ∷ drop (at + 1) frames) here in
    let number = to_be_bytes w16 (length frames) in
    let rest = flat_map page_bytes (pages_in (drop (at + 1) frames)) in
    let all : (number ++ first_bytes frames at) ++ (page_bytes f.page ++ rest) ≡ number ++ flat_map page_bytes (pages_in frames) =
    append_assoc number (first_bytes frames at) (page_bytes f.page ++ rest)
    ∙ ap (λ (l : List ℕ). number ++ l) (ap (λ (l : List ℕ). first_bytes frames at ++ l) (sym (next_bytes frames at f (drop (at + 1) frames) next)) ∙ sym (bytes_split frames at)) in
    subst (λ (l : List ℕ). AppendsFront (g.W.Sink.written c.args.out.now) (g.W.Sink.written c.write_page.new.out) l) all
    (front_behind (g.W.Sink.written c.args.out.now) (g.W.Sink.written c.pages.out) (g.W.Sink.written c.write_page.new.out) (number ++ first_bytes frames at) (page_bytes f.page ++ rest) c.pages.invariant.0
    (front_of (g.W.Sink.written c.pages.out) (g.W.Sink.written c.write_page.new.out) (page_bytes f.page) rest c.in-Err-write_page.ensures.front))
