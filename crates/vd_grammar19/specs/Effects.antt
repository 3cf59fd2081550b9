-- What each nonterminal does to the trees that stand side by side: written by tools/effects from the rows, and proved.
use Rattle.std.specs.Prelude.{ℕ, List, [], ◌∷◌}
use Rattle.vd_forms.specs.declared.form.Form.TheVariants as form
use Rattle.vd_forms.specs.Forms.{expressions, actuals, elements, ranges, plain_waveforms, waveforms, unlabelled_sequential, concurrent_statements, unlabelled_concurrent, declarations, suffixes, all_sequential_statements}
use Rattle.vd_forms.specs.Slots.{One, Many}
use Rattle.vd_valid_shapes.specs.Effects.{Effect, Push, Turn}
use Rattle.vd_grammar19.specs.declared.nonterminals.TheConstants.{N_FILE, N_UNITS, N_UNIT, N_CONTEXT, N_CLAUSES, N_CLAUSE, N_LIB, N_USE, N_SNAMES, N_MAIN, N_CTX, N_REFERENCE, N_CTXITEMS, N_CTXLIST, N_CTXITEM, N_CTXCLOSING, N_CTXWORD, N_IDS, N_IDTAIL, N_IDLIST, N_CLOSINGNAME, N_SNAME, N_DOTS, N_SUFFIX, N_ENTITY, N_GENSEND, N_PORTSEND, N_ENTCLOSING, N_ENTWORD, N_PORTS, N_MOREPORTS, N_PORT, N_SIGWORD, N_PORTKIND, N_MODE, N_DEFAULT, N_CONVERSE, N_OFSUBTY, N_GENS, N_GENR, N_MOREGENS, N_GEN, N_CONSTWORD, N_INWORD, N_PUREWORD, N_GENPARAMS, N_BOX, N_PARAMS, N_PARS, N_MOREPARS, N_PAR, N_DESIG, N_SUBTY, N_CONSTRAINT, N_ARCH, N_DECLPART, N_DECLS, N_CPART, N_CSTMTS, N_ARCHCLOSING, N_ARCHWORD, N_PACK, N_BODYCLOSING, N_BODYWORD, N_PACK2, N_PACKCLOSING, N_PACKWORD, N_GMAPOPT, N_GMAP, N_DECL, N_VIEWPART, N_VIEWITEMS, N_VIEWITEM, N_VMODE, N_TDEF, N_LITS, N_LIT, N_INDEX, N_AIDX, N_AIDX2, N_BOUNDS, N_BOUNDSTAIL, N_FIELDS, N_MOREFIELDS, N_FIELD, N_FN, N_FNGENS, N_PARWORD, N_FNPARAMS, N_FBODY, N_FNCLOSING, N_FNWORD, N_CLOSINGDESIG, N_SPART, N_SSTMTS, N_SSTMT, N_SID, N_SLABELLED, N_SINNER, N_TARGET, N_ASG, N_DELAY, N_WAVE, N_AFTER, N_CW, N_CWTAIL, N_CWELSE, N_VW, N_VWTAIL, N_VWELSE, N_RW, N_RWTAIL, N_SUN, N_SELECTED, N_ELSIFS, N_ELSIFLIST, N_ELSIF, N_ELSE, N_MATCHING, N_CASES, N_CASELIST, N_CASE, N_LOOP, N_WAITON, N_NAMES, N_WAITUNTIL, N_WAITFOR, N_WHENCOND, N_ASSERT, N_REPORTED, N_SEVERITY, N_SWS, N_MORESWS, N_SW, N_SVS, N_MORESVS, N_SV, N_CSTMT, N_CID, N_CLABELLED, N_CINNER, N_CASG, N_CUN, N_SENSITIVITY, N_SENSITIVE, N_ISWORD, N_INST, N_ARCHNAME, N_PMAPOPT, N_GEN1, N_GELSIFS, N_GELSIFLIST, N_GELSIF, N_GELSE, N_GCASES, N_GCASELIST, N_GCASE, N_GBODY, N_GDECLS, N_GEND, N_CHS, N_BARS, N_RNG, N_RNGTAIL, N_NAME, N_SUFS, N_SUF, N_TICK, N_ELEMS, N_ELEMTAIL, N_ELEM, N_ELEMRANGE, N_ELEMNAMED, N_ELEMCHOICES, N_ASSOC, N_ACT, N_EXPR, N_EXPRTAIL, N_ANDCHAIN, N_ANDTAIL, N_ANDITEM, N_ORCHAIN, N_ORTAIL, N_ORITEM, N_XORCHAIN, N_XORTAIL, N_XORITEM, N_XNORCHAIN, N_XNORTAIL, N_XNORITEM, N_REL, N_RELTAIL, N_SHF, N_SHFTAIL, N_SIM, N_SIGNED, N_SIMTAIL, N_ADDITEM, N_TERM, N_TERMTAIL, N_MULITEM, N_FAC, N_FACTAIL, N_PRIM, N_UNITNAME, N_QUOTEDTAIL}

abbrev pub effects : List (ℕ × Effect)
effects =
    (N_FILE, Push (Many (form.DesignUnit ∷ []) ∷ [])) ∷
    (N_UNITS, Push (Many (form.DesignUnit ∷ []) ∷ [])) ∷
    (N_UNIT, Push (One (form.DesignUnit ∷ []) ∷ [])) ∷
    (N_CONTEXT, Push (One (form.ContextClause ∷ []) ∷ [])) ∷
    (N_CLAUSES, Push (Many (form.LibraryClause ∷ form.UseClause ∷ []) ∷ [])) ∷
    (N_CLAUSE, Push (One (form.LibraryClause ∷ form.UseClause ∷ []) ∷ [])) ∷
    (N_LIB, Push (One (form.LibraryClause ∷ []) ∷ [])) ∷
    (N_USE, Push (One (form.UseClause ∷ []) ∷ [])) ∷
    (N_SNAMES, Push (Many (form.SelectedName ∷ []) ∷ [])) ∷
    (N_MAIN, Push (One (form.ContextDeclaration ∷ form.ReferringUnit ∷ form.EntityDeclaration ∷ form.ArchitectureBody ∷ form.PackageBody ∷ form.PackageInstantiation ∷ form.PackageDeclaration ∷ []) ∷ [])) ∷
    (N_CTX, Turn (One (form.SelectedName ∷ []) ∷ []) (One (form.ContextDeclaration ∷ form.ReferringUnit ∷ []) ∷ [])) ∷
    (N_REFERENCE, Turn (One (form.SelectedName ∷ []) ∷ []) (One (form.ContextReference ∷ []) ∷ [])) ∷
    (N_CTXITEMS, Push (One (form.ContextItems ∷ []) ∷ [])) ∷
    (N_CTXLIST, Push (Many (form.LibraryClause ∷ form.UseClause ∷ form.NestedReference ∷ []) ∷ [])) ∷
    (N_CTXITEM, Push (One (form.LibraryClause ∷ form.UseClause ∷ form.NestedReference ∷ []) ∷ [])) ∷
    (N_CTXCLOSING, Push (One (form.Closing ∷ []) ∷ [])) ∷
    (N_CTXWORD, Push (One (form.ClosingWord ∷ form.Absent ∷ []) ∷ [])) ∷
    (N_IDS, Push (One (form.Identifier ∷ []) ∷ Many (form.Identifier ∷ []) ∷ [])) ∷
    (N_IDTAIL, Push (Many (form.Identifier ∷ []) ∷ [])) ∷
    (N_IDLIST, Push (One (form.IdentifierList ∷ []) ∷ [])) ∷
    (N_CLOSINGNAME, Push (One (form.Identifier ∷ form.Absent ∷ []) ∷ [])) ∷
    (N_SNAME, Push (One (form.SelectedName ∷ []) ∷ [])) ∷
    (N_DOTS, Push (Many (form.Identifier ∷ form.Letter ∷ form.Quoted ∷ form.All ∷ []) ∷ [])) ∷
    (N_SUFFIX, Push (One (form.Identifier ∷ form.Letter ∷ form.Quoted ∷ form.All ∷ []) ∷ [])) ∷
    (N_ENTITY, Push (One (form.EntityDeclaration ∷ []) ∷ [])) ∷
    (N_GENSEND, Push (One (form.GenericClause ∷ form.Absent ∷ []) ∷ [])) ∷
    (N_PORTSEND, Push (One (form.PortClause ∷ form.Absent ∷ []) ∷ [])) ∷
    (N_ENTCLOSING, Push (One (form.Closing ∷ []) ∷ [])) ∷
    (N_ENTWORD, Push (One (form.ClosingWord ∷ form.Absent ∷ []) ∷ [])) ∷
    (N_PORTS, Push (Many (form.PortDeclaration ∷ form.ViewPort ∷ []) ∷ [])) ∷
    (N_MOREPORTS, Push (Many (form.PortDeclaration ∷ form.ViewPort ∷ []) ∷ [])) ∷
    (N_PORT, Push (One (form.PortDeclaration ∷ form.ViewPort ∷ []) ∷ [])) ∷
    (N_SIGWORD, Push (One (form.SignalWord ∷ form.Absent ∷ []) ∷ [])) ∷
    (N_PORTKIND, Turn (One (form.SignalWord ∷ form.Absent ∷ []) ∷ One (form.IdentifierList ∷ []) ∷ []) (One (form.PortDeclaration ∷ form.ViewPort ∷ []) ∷ [])) ∷
    (N_MODE, Push (One (form.In ∷ form.Out ∷ form.InOut ∷ form.Absent ∷ []) ∷ [])) ∷
    (N_DEFAULT, Push (One (form.Absent ∷ expressions) ∷ [])) ∷
    (N_CONVERSE, Push (One (form.Identifier ∷ form.Absent ∷ []) ∷ [])) ∷
    (N_OFSUBTY, Push (One (form.SubtypeIndication ∷ form.Absent ∷ []) ∷ [])) ∷
    (N_GENS, Push (One (form.GenericClause ∷ []) ∷ [])) ∷
    (N_GENR, Push (Many (form.GenericConstant ∷ form.GenericType ∷ form.GenericFunction ∷ []) ∷ [])) ∷
    (N_MOREGENS, Push (Many (form.GenericConstant ∷ form.GenericType ∷ form.GenericFunction ∷ []) ∷ [])) ∷
    (N_GEN, Push (One (form.GenericConstant ∷ form.GenericType ∷ form.GenericFunction ∷ []) ∷ [])) ∷
    (N_CONSTWORD, Push (One (form.ConstantWord ∷ form.Absent ∷ []) ∷ [])) ∷
    (N_INWORD, Push (One (form.In ∷ form.Absent ∷ []) ∷ [])) ∷
    (N_PUREWORD, Push (One (form.PureWord ∷ form.Absent ∷ []) ∷ [])) ∷
    (N_GENPARAMS, Push (One (form.ParameterList ∷ form.Absent ∷ []) ∷ [])) ∷
    (N_BOX, Push (One (form.Box ∷ form.Absent ∷ []) ∷ [])) ∷
    (N_PARAMS, Push (One (form.ParameterList ∷ []) ∷ [])) ∷
    (N_PARS, Push (Many (form.ParameterDeclaration ∷ []) ∷ [])) ∷
    (N_MOREPARS, Push (Many (form.ParameterDeclaration ∷ []) ∷ [])) ∷
    (N_PAR, Push (One (form.ParameterDeclaration ∷ []) ∷ [])) ∷
    (N_DESIG, Push (One (form.Identifier ∷ form.Quoted ∷ []) ∷ [])) ∷
    (N_SUBTY, Push (One (form.SubtypeIndication ∷ []) ∷ [])) ∷
    (N_CONSTRAINT, Push (One (form.IndexConstraint ∷ form.RangeConstraint ∷ form.Absent ∷ []) ∷ [])) ∷
    (N_ARCH, Push (One (form.ArchitectureBody ∷ []) ∷ [])) ∷
    (N_DECLPART, Push (One (form.DeclarativePart ∷ []) ∷ [])) ∷
    (N_DECLS, Push (Many declarations ∷ [])) ∷
    (N_CPART, Push (One (form.StatementPart ∷ []) ∷ [])) ∷
    (N_CSTMTS, Push (Many concurrent_statements ∷ [])) ∷
    (N_ARCHCLOSING, Push (One (form.Closing ∷ []) ∷ [])) ∷
    (N_ARCHWORD, Push (One (form.ClosingWord ∷ form.Absent ∷ []) ∷ [])) ∷
    (N_PACK, Turn [] (One (form.PackageBody ∷ form.PackageInstantiation ∷ form.PackageDeclaration ∷ []) ∷ [])) ∷
    (N_BODYCLOSING, Push (One (form.Closing ∷ []) ∷ [])) ∷
    (N_BODYWORD, Push (One (form.ClosingWord ∷ form.Absent ∷ []) ∷ [])) ∷
    (N_PACK2, Turn (One (form.Identifier ∷ []) ∷ []) (One (form.PackageInstantiation ∷ form.PackageDeclaration ∷ []) ∷ [])) ∷
    (N_PACKCLOSING, Push (One (form.Closing ∷ []) ∷ [])) ∷
    (N_PACKWORD, Push (One (form.ClosingWord ∷ form.Absent ∷ []) ∷ [])) ∷
    (N_GMAPOPT, Push (One (form.GenericMap ∷ form.Absent ∷ []) ∷ [])) ∷
    (N_GMAP, Push (One (form.GenericMap ∷ []) ∷ [])) ∷
    (N_DECL, Push (One declarations ∷ [])) ∷
    (N_VIEWPART, Push (One (form.ViewElements ∷ []) ∷ [])) ∷
    (N_VIEWITEMS, Push (Many (form.ViewElement ∷ []) ∷ [])) ∷
    (N_VIEWITEM, Push (One (form.ViewElement ∷ []) ∷ [])) ∷
    (N_VMODE, Push (One (form.In ∷ form.Out ∷ form.InOut ∷ form.ViewMode ∷ []) ∷ [])) ∷
    (N_TDEF, Push (One (form.EnumerationType ∷ form.ArrayType ∷ form.RecordType ∷ []) ∷ [])) ∷
    (N_LITS, Push (Many (form.Identifier ∷ form.Letter ∷ []) ∷ [])) ∷
    (N_LIT, Push (One (form.Identifier ∷ form.Letter ∷ []) ∷ [])) ∷
    (N_INDEX, Push (One (form.UnconstrainedIndex ∷ ranges) ∷ [])) ∷
    (N_AIDX, Turn (One expressions ∷ []) (One (form.UnconstrainedIndex ∷ ranges) ∷ [])) ∷
    (N_AIDX2, Turn (One expressions ∷ []) (One (form.UnconstrainedIndex ∷ form.DiscreteSubtype ∷ []) ∷ [])) ∷
    (N_BOUNDS, Push (One (form.Ascending ∷ form.Descending ∷ []) ∷ [])) ∷
    (N_BOUNDSTAIL, Turn (One expressions ∷ []) (One (form.Ascending ∷ form.Descending ∷ []) ∷ [])) ∷
    (N_FIELDS, Push (One (form.RecordElements ∷ []) ∷ [])) ∷
    (N_MOREFIELDS, Push (Many (form.RecordElement ∷ []) ∷ [])) ∷
    (N_FIELD, Push (One (form.RecordElement ∷ []) ∷ [])) ∷
    (N_FN, Turn (One (form.PureWord ∷ form.Absent ∷ []) ∷ One (form.Identifier ∷ form.Quoted ∷ []) ∷ []) (One (form.FunctionInstantiation ∷ form.FunctionDeclaration ∷ form.FunctionBody ∷ []) ∷ [])) ∷
    (N_FNGENS, Push (One (form.GenericClause ∷ form.Absent ∷ []) ∷ [])) ∷
    (N_PARWORD, Push (One (form.ParameterWord ∷ form.Absent ∷ []) ∷ [])) ∷
    (N_FNPARAMS, Push (One (form.ParameterList ∷ form.Absent ∷ []) ∷ [])) ∷
    (N_FBODY, Turn (One (form.PureWord ∷ form.Absent ∷ []) ∷ One (form.Identifier ∷ form.Quoted ∷ []) ∷ One (form.GenericClause ∷ form.Absent ∷ []) ∷ One (form.ParameterWord ∷ form.Absent ∷ []) ∷ One (form.ParameterList ∷ form.Absent ∷ []) ∷ One (form.SelectedName ∷ []) ∷ []) (One (form.FunctionDeclaration ∷ form.FunctionBody ∷ []) ∷ [])) ∷
    (N_FNCLOSING, Push (One (form.FunctionClosing ∷ []) ∷ [])) ∷
    (N_FNWORD, Push (One (form.ClosingWord ∷ form.Absent ∷ []) ∷ [])) ∷
    (N_CLOSINGDESIG, Push (One (form.Identifier ∷ form.Quoted ∷ form.Absent ∷ []) ∷ [])) ∷
    (N_SPART, Push (One (form.Statements ∷ []) ∷ [])) ∷
    (N_SSTMTS, Push (Many all_sequential_statements ∷ [])) ∷
    (N_SSTMT, Push (One all_sequential_statements ∷ [])) ∷
    (N_SID, Turn (One (form.Identifier ∷ []) ∷ []) (One (form.LabelledStatement ∷ form.SignalAssignment ∷ form.VariableAssignment ∷ []) ∷ [])) ∷
    (N_SLABELLED, Turn (One (form.Identifier ∷ []) ∷ []) (One (form.LabelledStatement ∷ []) ∷ [])) ∷
    (N_SINNER, Push (One (form.SelectedSignalAssignment ∷ unlabelled_sequential) ∷ [])) ∷
    (N_TARGET, Turn (One (form.Identifier ∷ []) ∷ []) (One (form.Name ∷ []) ∷ [])) ∷
    (N_ASG, Turn (One (form.Name ∷ []) ∷ []) (One (form.SignalAssignment ∷ form.VariableAssignment ∷ []) ∷ [])) ∷
    (N_DELAY, Push (One (form.Transport ∷ form.Inertial ∷ form.Absent ∷ []) ∷ [])) ∷
    (N_WAVE, Push (One plain_waveforms ∷ [])) ∷
    (N_AFTER, Turn (One expressions ∷ []) (One (form.DelayedWaveform ∷ expressions) ∷ [])) ∷
    (N_CW, Push (One waveforms ∷ [])) ∷
    (N_CWTAIL, Turn (One plain_waveforms ∷ []) (One waveforms ∷ [])) ∷
    (N_CWELSE, Turn (One plain_waveforms ∷ One expressions ∷ []) (One (form.ConditionalWaveform ∷ form.GuardedWaveform ∷ []) ∷ [])) ∷
    (N_VW, Push (One (form.ConditionalValue ∷ form.GuardedValue ∷ expressions) ∷ [])) ∷
    (N_VWTAIL, Turn (One expressions ∷ []) (One (form.ConditionalValue ∷ form.GuardedValue ∷ expressions) ∷ [])) ∷
    (N_VWELSE, Turn (One expressions ∷ One expressions ∷ []) (One (form.ConditionalValue ∷ form.GuardedValue ∷ []) ∷ [])) ∷
    (N_RW, Push (One (form.ConditionalReturn ∷ expressions) ∷ [])) ∷
    (N_RWTAIL, Turn (One expressions ∷ []) (One (form.ConditionalReturn ∷ expressions) ∷ [])) ∷
    (N_SUN, Push (One (form.SelectedSignalAssignment ∷ unlabelled_sequential) ∷ [])) ∷
    (N_SELECTED, Turn (One expressions ∷ One (form.Matching ∷ form.Absent ∷ []) ∷ One (form.Name ∷ []) ∷ []) (One (form.SelectedSignalAssignment ∷ form.SelectedVariableAssignment ∷ []) ∷ [])) ∷
    (N_ELSIFS, Push (One (form.ElsifBranches ∷ []) ∷ [])) ∷
    (N_ELSIFLIST, Push (Many (form.ElsifBranch ∷ []) ∷ [])) ∷
    (N_ELSIF, Push (One (form.ElsifBranch ∷ []) ∷ [])) ∷
    (N_ELSE, Push (One (form.ElseBranch ∷ form.Absent ∷ []) ∷ [])) ∷
    (N_MATCHING, Push (One (form.Matching ∷ form.Absent ∷ []) ∷ [])) ∷
    (N_CASES, Push (One (form.CaseAlternatives ∷ []) ∷ [])) ∷
    (N_CASELIST, Push (Many (form.CaseAlternative ∷ []) ∷ [])) ∷
    (N_CASE, Push (One (form.CaseAlternative ∷ []) ∷ [])) ∷
    (N_LOOP, Push (One (form.Statements ∷ []) ∷ One (form.Identifier ∷ form.Absent ∷ []) ∷ [])) ∷
    (N_WAITON, Push (One (form.SensitivityList ∷ form.Absent ∷ []) ∷ [])) ∷
    (N_NAMES, Push (Many (form.Name ∷ []) ∷ [])) ∷
    (N_WAITUNTIL, Push (One (form.Absent ∷ expressions) ∷ [])) ∷
    (N_WAITFOR, Push (One (form.Absent ∷ expressions) ∷ [])) ∷
    (N_WHENCOND, Push (One (form.Absent ∷ expressions) ∷ [])) ∷
    (N_ASSERT, Push (One (form.AssertStatement ∷ []) ∷ [])) ∷
    (N_REPORTED, Push (One (form.Absent ∷ expressions) ∷ [])) ∷
    (N_SEVERITY, Push (One (form.Absent ∷ expressions) ∷ [])) ∷
    (N_SWS, Push (One (form.SelectedWaveform ∷ []) ∷ Many (form.SelectedWaveform ∷ []) ∷ [])) ∷
    (N_MORESWS, Push (Many (form.SelectedWaveform ∷ []) ∷ [])) ∷
    (N_SW, Push (One (form.SelectedWaveform ∷ []) ∷ [])) ∷
    (N_SVS, Push (One (form.SelectedValue ∷ []) ∷ Many (form.SelectedValue ∷ []) ∷ [])) ∷
    (N_MORESVS, Push (Many (form.SelectedValue ∷ []) ∷ [])) ∷
    (N_SV, Push (One (form.SelectedValue ∷ []) ∷ [])) ∷
    (N_CSTMT, Push (One concurrent_statements ∷ [])) ∷
    (N_CID, Turn (One (form.Identifier ∷ []) ∷ []) (One (form.LabelledConcurrent ∷ form.ConcurrentAssignment ∷ []) ∷ [])) ∷
    (N_CLABELLED, Turn (One (form.Identifier ∷ []) ∷ []) (One (form.LabelledConcurrent ∷ []) ∷ [])) ∷
    (N_CINNER, Push (One unlabelled_concurrent ∷ [])) ∷
    (N_CASG, Turn (One (form.Name ∷ []) ∷ []) (One (form.ConcurrentAssignment ∷ []) ∷ [])) ∷
    (N_CUN, Push (One (form.SelectedSignalAssignment ∷ form.AssertStatement ∷ form.ProcessStatement ∷ []) ∷ [])) ∷
    (N_SENSITIVITY, Push (One (form.All ∷ form.SensitivityList ∷ form.Absent ∷ []) ∷ [])) ∷
    (N_SENSITIVE, Push (One (form.All ∷ form.SensitivityList ∷ []) ∷ [])) ∷
    (N_ISWORD, Push (One (form.Is ∷ form.Absent ∷ []) ∷ [])) ∷
    (N_INST, Push (One (form.EntityInstantiation ∷ []) ∷ [])) ∷
    (N_ARCHNAME, Push (One (form.Identifier ∷ form.Absent ∷ []) ∷ [])) ∷
    (N_PMAPOPT, Push (One (form.PortMap ∷ form.Absent ∷ []) ∷ [])) ∷
    (N_GEN1, Push (One (form.IfGenerate ∷ form.ForGenerate ∷ form.CaseGenerate ∷ []) ∷ [])) ∷
    (N_GELSIFS, Push (One (form.ElsifGenerates ∷ []) ∷ [])) ∷
    (N_GELSIFLIST, Push (Many (form.ElsifGenerate ∷ []) ∷ [])) ∷
    (N_GELSIF, Push (One (form.ElsifGenerate ∷ []) ∷ [])) ∷
    (N_GELSE, Push (One (form.GenerateBody ∷ form.Absent ∷ []) ∷ [])) ∷
    (N_GCASES, Push (One (form.GenerateAlternatives ∷ []) ∷ [])) ∷
    (N_GCASELIST, Push (Many (form.GenerateAlternative ∷ []) ∷ [])) ∷
    (N_GCASE, Push (One (form.GenerateAlternative ∷ []) ∷ [])) ∷
    (N_GBODY, Push (One (form.GenerateBody ∷ []) ∷ [])) ∷
    (N_GDECLS, Push (One (form.DeclarativePart ∷ form.Absent ∷ []) ∷ [])) ∷
    (N_GEND, Push (One (form.Identifier ∷ form.Absent ∷ []) ∷ [])) ∷
    (N_CHS, Push (One (form.Others ∷ form.Choices ∷ []) ∷ [])) ∷
    (N_BARS, Push (Many ranges ∷ [])) ∷
    (N_RNG, Push (One ranges ∷ [])) ∷
    (N_RNGTAIL, Turn (One expressions ∷ []) (One ranges ∷ [])) ∷
    (N_NAME, Push (One (form.Name ∷ []) ∷ [])) ∷
    (N_SUFS, Push (Many suffixes ∷ [])) ∷
    (N_SUF, Push (One suffixes ∷ [])) ∷
    (N_TICK, Push (One (form.Attribute ∷ form.RangeAttribute ∷ form.Qualification ∷ []) ∷ [])) ∷
    (N_ELEMS, Push (One elements ∷ Many elements ∷ [])) ∷
    (N_ELEMTAIL, Push (Many elements ∷ [])) ∷
    (N_ELEM, Push (One elements ∷ [])) ∷
    (N_ELEMRANGE, Turn (One expressions ∷ []) (One (form.Ascending ∷ form.Descending ∷ expressions) ∷ [])) ∷
    (N_ELEMNAMED, Turn (One (form.Ascending ∷ form.Descending ∷ expressions) ∷ []) (One (form.Ascending ∷ form.Descending ∷ form.Association ∷ expressions) ∷ [])) ∷
    (N_ELEMCHOICES, Turn (One (form.Ascending ∷ form.Descending ∷ expressions) ∷ []) (One (form.AssociationChoices ∷ []) ∷ [])) ∷
    (N_ASSOC, Turn (One (form.AssociationChoices ∷ []) ∷ []) (One (form.Association ∷ []) ∷ [])) ∷
    (N_ACT, Push (One actuals ∷ [])) ∷
    (N_EXPR, Push (One expressions ∷ [])) ∷
    (N_EXPRTAIL, Turn (One expressions ∷ []) (One expressions ∷ [])) ∷
    (N_ANDCHAIN, Turn (One expressions ∷ []) (One (form.And ∷ []) ∷ [])) ∷
    (N_ANDTAIL, Turn (One (form.And ∷ []) ∷ []) (One (form.And ∷ []) ∷ [])) ∷
    (N_ANDITEM, Turn (One expressions ∷ []) (One (form.And ∷ []) ∷ [])) ∷
    (N_ORCHAIN, Turn (One expressions ∷ []) (One (form.Or ∷ []) ∷ [])) ∷
    (N_ORTAIL, Turn (One (form.Or ∷ []) ∷ []) (One (form.Or ∷ []) ∷ [])) ∷
    (N_ORITEM, Turn (One expressions ∷ []) (One (form.Or ∷ []) ∷ [])) ∷
    (N_XORCHAIN, Turn (One expressions ∷ []) (One (form.Xor ∷ []) ∷ [])) ∷
    (N_XORTAIL, Turn (One (form.Xor ∷ []) ∷ []) (One (form.Xor ∷ []) ∷ [])) ∷
    (N_XORITEM, Turn (One expressions ∷ []) (One (form.Xor ∷ []) ∷ [])) ∷
    (N_XNORCHAIN, Turn (One expressions ∷ []) (One (form.Xnor ∷ []) ∷ [])) ∷
    (N_XNORTAIL, Turn (One (form.Xnor ∷ []) ∷ []) (One (form.Xnor ∷ []) ∷ [])) ∷
    (N_XNORITEM, Turn (One expressions ∷ []) (One (form.Xnor ∷ []) ∷ [])) ∷
    (N_REL, Push (One expressions ∷ [])) ∷
    (N_RELTAIL, Turn (One expressions ∷ []) (One expressions ∷ [])) ∷
    (N_SHF, Push (One expressions ∷ [])) ∷
    (N_SHFTAIL, Turn (One expressions ∷ []) (One expressions ∷ [])) ∷
    (N_SIM, Push (One expressions ∷ [])) ∷
    (N_SIGNED, Push (One expressions ∷ [])) ∷
    (N_SIMTAIL, Turn (One expressions ∷ []) (One expressions ∷ [])) ∷
    (N_ADDITEM, Turn (One expressions ∷ []) (One (form.Add ∷ form.Subtract ∷ form.Concatenate ∷ []) ∷ [])) ∷
    (N_TERM, Push (One expressions ∷ [])) ∷
    (N_TERMTAIL, Turn (One expressions ∷ []) (One expressions ∷ [])) ∷
    (N_MULITEM, Turn (One expressions ∷ []) (One (form.Multiply ∷ form.Divide ∷ form.Modulo ∷ form.Remainder ∷ []) ∷ [])) ∷
    (N_FAC, Push (One expressions ∷ [])) ∷
    (N_FACTAIL, Turn (One expressions ∷ []) (One expressions ∷ [])) ∷
    (N_PRIM, Push (One expressions ∷ [])) ∷
    (N_UNITNAME, Turn (One (form.Number ∷ []) ∷ []) (One (form.Number ∷ form.PhysicalLiteral ∷ []) ∷ [])) ∷
    (N_QUOTEDTAIL, Turn (One (form.Quoted ∷ []) ∷ []) (One (form.Quoted ∷ form.OperatorName ∷ []) ∷ [])) ∷
    []
