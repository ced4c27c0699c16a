use Rattle.std.proofs.Common.{◌≡◌, drop, slice_index, ap, ◌∙◌}
use Rattle.std.proofs.lemmas.List.{take_rest}
use Rattle.byteorder.specs.Endian.{big_number}
use Rattle.psi_frames.proofs.Heads.{frame-joined}
use Rattle.psi_frames.proofs.begun.frame_of.Goals as goal

pub returns : goal.returns
returns c =
    let h = c.args.head.now in
    let body = c.args.body.items in
    let session : c.read_u16.result ≡ big_number 2 (drop 5 h) = c.read_u16.ensures ∙ ap (big_number 2) (take_rest h 5) in
    let number : c.read_u32.result ≡ big_number 4 (drop 7 h) = c.read_u32.ensures ∙ ap (big_number 4) (take_rest h 7) in
    let read : record { kind = slice_index h 4; session = c.read_u16.result; number = c.read_u32.result; body = c.of.result } ≡ record { kind = slice_index h 4; session = big_number 2 (drop 5 h); number = big_number 4 (drop 7 h); body = body } =
    λ i. record { kind = slice_index h 4; session = session i; number = number i; body = c.of.ensures i } in
    read ∙ frame-joined h body c.requires.eleven c.requires.whole
