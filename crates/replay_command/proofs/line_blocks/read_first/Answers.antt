use Rattle.std.proofs.Common.{◌++◌, ap, sym, ◌∙◌, take, arith, length-take}
use Rattle.std.proofs.lemmas.List.{take-append-drop}
use Rattle.replay_command.proofs.ApartLemmas.{means_read}
use Rattle.replay_command.proofs.line_blocks.read_first.Goals as goal

pub returns-clause-first : goal.returns-clause-first
returns-clause-first c =
    let len = c.in_ok-len.len in
    let octets = c.args.octets.now in
    let text = take len octets in
    record {
      text = text;
      parts = sym (take-append-drop len octets) ∙ ap (λ xs. text ++ xs) c.in_ok-len.ensures.newline;
      no_newline = c.in_ok-len.ensures.line;
      short = omega (arith, length-take len octets, c.in_ok-len.ensures.short);
      long = omega (arith, length-take len octets, c.in_ok-len.ensures.within);
      means = means_read c.read_line.result text c.read_line.ensures.line c.read_line.ensures.refusal;
    }
