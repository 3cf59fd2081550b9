use Rattle.std.proofs.Common.{◌≡◌, ◌<◌, List, ℕ, length, vec_len, take, ◌++◌, Ok, refl, ap, ◌∙◌, arith}
use Rattle.std.proofs.lemmas.Option.{IfSome_then}
use Rattle.vd_bytes.proofs.TrayLemmas.{OnlyReads-refl, OnlyReads-trans, RoseAt-later, SameCounts-trans}
use Rattle.vd_bytes.proofs.ReadSteps.{IsReadUpTo, IsReadUpTo-start, IsReadUpTo-more, IsReadUpTo-long, IsReadUpTo-end, length-more}
use Rattle.vd_bytes.proofs.reading.read_rest.Goals as goal

pub pieces-init : goal.pieces-init
pieces-init g c = record {
  is_open = c.requires.opened;
  name = refl;
  short = omega (arith, c.new-bytes.ensures.len);
  so_far = IsReadUpTo-start _ _ c.new-bytes.ensures.items;
  no_fault = λ _. refl;
  only_reads = OnlyReads-refl _;
}

pub returns-in_err-n-clause-fault : goal.returns-in_err-n-clause-fault
returns-in_err-n-clause-fault g c _ =
    RoseAt-later _ _ _ _ c.pieces.invariant.only_reads.read_counts (rw c.pieces.invariant.name at c.in_err-n.ensures.fault)

pub returns-in_err-n-clause-only_reads : goal.returns-in_err-n-clause-only_reads
returns-in_err-n-clause-only_reads g c = OnlyReads-trans c.pieces.invariant.only_reads c.read.ensures.only_reads

pub returns-then-n-eq0-clause-content : goal.returns-then-n-eq0-clause-content
returns-then-n-eq0-clause-content g c =
    IfSome_then _ c.pieces.invariant.so_far (λ told so_far. IsReadUpTo-end told _ _ so_far (c.in_ok-n.ensures.ended c.pieces.invariant.is_open (omega (arith, c.read.auto.into, c.pieces.auto.piece, c.requires.room)) (ap Ok c.if-n-eq0.true)))

pub returns-then-n-eq0-clause-only_reads : goal.returns-then-n-eq0-clause-only_reads
returns-then-n-eq0-clause-only_reads g c = OnlyReads-trans c.pieces.invariant.only_reads c.read.ensures.only_reads

pub returns-then-n-left-clause-too_long : goal.returns-then-n-left-clause-too_long
returns-then-n-left-clause-too_long g c _ =
    let P : List ℕ → Type 0 = λ told. c.args.left < length told in
    IfSome_then _ {Q = P} c.pieces.invariant.so_far
    (λ told so_far. omega (arith, IsReadUpTo-long told _ _ c.in_ok-n.n _ _ so_far c.in_ok-n.ensures.taken, c.pieces.bytes.ok.0, c.if-n-left.true, c.len.ensures))

pub returns-then-n-left-clause-only_reads : goal.returns-then-n-left-clause-only_reads
returns-then-n-left-clause-only_reads g c = OnlyReads-trans c.pieces.invariant.only_reads c.read.ensures.only_reads

pub pieces-preserved : goal.pieces-preserved
pieces-preserved g c = record {
  is_open = c.in_ok-n.ensures.same_open ∙ c.pieces.invariant.is_open;
  name = c.in_ok-n.ensures.same_name ∙ c.pieces.invariant.name;
  short =
      let longer : vec_len c.extend_from_slice.new.self ≡ length (c.pieces.bytes.items ++ take c.in_ok-n.n c.read.new.into) = c.extend_from_slice.new.self.ok.0 ∙ ap length c.in_ok-extend_from_slice.ensures.items in
      omega (arith, longer, length-more c.pieces.bytes.items c.read.new.into c.in_ok-n.n, c.pieces.bytes.ok.0, c.if-n-left.false, c.len.ensures, c.pieces.invariant.short);
  so_far =
      let P : List ℕ → Type 0 = λ told. IsReadUpTo told c.extend_from_slice.new.self.items (g.T.Tray.rest c.read.new.self) in
      IfSome_then _ {Q = P} c.pieces.invariant.so_far
      (λ told so_far. rw c.in_ok-extend_from_slice.ensures.items (IsReadUpTo-more told _ _ c.in_ok-n.n _ _ so_far _ c.in_ok-n.ensures.taken c.in_ok-n.ensures.left));
  no_fault = SameCounts-trans _ _ _ c.pieces.invariant.no_fault c.in_ok-n.ensures.no_fault;
  only_reads = OnlyReads-trans c.pieces.invariant.only_reads c.read.ensures.only_reads;
}

pub returns-in_err-extend_from_slice-clause-only_reads :
    goal.returns-in_err-extend_from_slice-clause-only_reads
returns-in_err-extend_from_slice-clause-only_reads g c = OnlyReads-trans c.pieces.invariant.only_reads c.read.ensures.only_reads
