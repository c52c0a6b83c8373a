-- The three bytes, then the words.
use lib.ListN.{set}
use Rattle.std.proofs.Common.{ℕ, ◌+◌, List, [], ◌∷◌, map, ◌∙◌, ap, arith}
use Rattle.records.specs.Words.{paste}
use Rattle.records.specs.Records.{flat}
use Rattle.image.specs.Image.{bytes, record_bytes}
use Rattle.image.specs.Kinds.{kind_number}
use Rattle.image.proofs.Saving.PutLaws.{paste_more, mark-pasted}
use Rattle.image.proofs.rows.put_record.Goals as goal

pub returns : goal.returns
unfolding record_bytes
returns c =
    let p = c.put_words in
    let s = c.args in
    let mark : List ℕ = 0x52 ∷ 0x47 ∷ kind_number s.kind ∷ [] in
    let ws = flat (map (bytes 8) s.ws.now) in
    p.ensures
    ∙ ap (paste (s.at + 3) ws) (ap (set (set (set s.out.now s.at 0x52) (s.at + 1) 0x47) (s.at + 2)) c.byte.ensures ∙ mark-pasted 0x52 0x47 (kind_number s.kind) s.at s.out.now (omega arith))
    ∙ paste_more s.at (s.at + 3) mark ws s.out.now (omega arith) (omega arith)
